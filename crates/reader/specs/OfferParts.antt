-- The offers as they are written: their shapes, and which numbers agree. Assumes nothing.
use Rattle.std.specs.Prelude.{ℕ, List, pos, neg_ℤ, codes}
use Rattle.words.specs.Shapes.{Shape, natural, ended, both, put, group}
use Rattle.reader.specs.declared.steps.Step.{Step}
use Rattle.reader.specs.declared.numbers.Run.{Run}
use Rattle.reader.specs.declared.numbers.Rest.{Rest}
use Rattle.reader.specs.declared.numbers.StartCosts.{StartCosts}
use Rattle.reader.specs.declared.numbers.Was.{Was}
use Rattle.reader.specs.declared.numbers.Rate.{Rate}
use Rattle.reader.specs.declared.numbers.LakeNumbers.{LakeNumbers}
use Rattle.reader.specs.declared.offer_parts.SteamParts.{SteamParts}
use Rattle.reader.specs.declared.offer_parts.RampParts.{RampParts}
use Rattle.reader.specs.Lists.{steps_shape}
use Rattle.reader.specs.Groups.{money, level, run_shape, rest_shape, start_shape, rate_shape, flow_shape, was_shape}

-- run, rest, start costs, idle cost, steps, and what was before the day
abbrev pub SteamValues : Type 0
SteamValues = Run × (Rest × (StartCosts × (ℕ × (List Step × Was))))

-- run, rate, start cost, idle cost, steps, and the output before the day
abbrev pub RampValues : Type 0
RampValues = Run × (Rate × (ℕ × (ℕ × (List Step × ℕ))))

abbrev pub steam_shape : Shape SteamValues
steam_shape =
    ended (both run_shape (both rest_shape (both start_shape (both (group (codes "idle") money)
    (both (steps_shape (neg_ℤ (pos 500000)) (pos 500000)) was_shape)))))

abbrev pub ramp_shape : Shape RampValues
ramp_shape =
    ended (both run_shape (both rate_shape (both (group (codes "start") money) (both (group (codes "idle") money)
    (both (steps_shape (neg_ℤ (pos 500000)) (pos 500000)) (group (codes "was") (natural (pos 0) (pos 500))))))))

abbrev pub lake_shape : Shape LakeNumbers
lake_shape =
    put (λ v. record { full = v.0; flow = v.1.0; wear = v.1.1.0; was = v.1.1.1.0; end = v.1.1.1.1 })
    (λ n. (n.full, (n.flow, (n.wear, (n.was, n.end)))))
    (ended (both (group (codes "full") (natural (pos 1) (pos 79))) (both flow_shape
    (both (group (codes "wear") (natural (pos 0) (pos 100000))) (both (group (codes "was") level) (group (codes "end") level))))))

abbrev pub buyer_shape : Shape (List Step)
buyer_shape = ended (steps_shape (pos 0) (pos 500000))

abbrev pub steam_parts : SteamParts → SteamValues
steam_parts p = (p.run, (p.rest, (p.start, (p.idle, (p.steps.items, p.was)))))

abbrev pub ramp_parts : RampParts → RampValues
ramp_parts p = (p.run, (p.rate, (p.start, (p.idle, (p.steps.items, p.was)))))
