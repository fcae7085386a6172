-- What a decline made by its cause says. Assumes nothing.
use Rattle.std.proofs.Common.{◌≡◌, ℕ, sym, refl, subst}
use Rattle.terms.specs.declared.decline.Cause.{Cause}
use Rattle.terms.specs.declared.decline.Decline.{Decline}
use Rattle.terms.specs.Declines.{number_of, layer_of, Says}

pub says : (c : Cause) (p : ℕ) (d : Decline) → d ≡ record { cause = c; place = p } → Says (layer_of c) (number_of c) p d
says c p d e = subst (Says (layer_of c) (number_of c) p) (sym e) (record { layer = refl; number = refl; place = refl })
