-- That the homing unit makes a fleet. Assumes nothing.
use Rattle.std.specs.Prelude.{◌≡◌, ℕ, ◌≤◌, Bool, true, false, cond, ◌&&◌, Some, None, Option, ◌==◌, refl}
use Rattle.std.proofs.Common.{arith}
use Rattle.std.proofs.lemmas.Int.{ints}
use Rattle.std.proofs.lemmas.Bool.{cond-false}
use Rattle.std.proofs.lemmas.Bool.Decides.{nat_tests}
use Rattle.terms.proofs.Bounds.{near_pos, near_zero}
use Rattle.fleet.specs.declared.records.Range.{Range}
use Rattle.fleet.specs.Units.{SoundUnit, Sound, SoundArc}
use Rattle.settlement_tests.specs.HomingUnits.{goes, lots, homing_unit, homing_meaning}

arc_sound : (b : Bool) → SoundArc (cond b (Some lots) None)
arc_sound true = (near_pos 500 0 (omega arith), near_pos 500 9 (omega arith), omega (arith, ints))
arc_sound false = tt

no_arc : (b : Bool) → b ≡ false → ◌≡◌ {A = Option Range} (cond b (Some lots) None) None
no_arc b h = cond-false b (Some lots) None h

states_some : (b : Bool) → 1 ≤ cond b 2 1
states_some true = omega arith
states_some false = omega arith

states_few : (b : Bool) → cond b 2 1 ≤ 80
states_few true = omega arith
states_few false = omega arith

late : (u t a b : ℕ) → 48 ≤ t → goes u t a b ≡ false
late u t a b h = grind (arith, nat_tests)

from_nowhere : (u t a b : ℕ) → cond (u == 0) 2 1 ≤ a → goes u t a b ≡ false
from_nowhere u t a b h = grind (arith, nat_tests)

to_nowhere : (u t a b : ℕ) → cond (u == 0) 2 1 ≤ b → goes u t a b ≡ false
to_nowhere u t a b h = grind (arith, nat_tests)

past : (u a : ℕ) → cond (u == 0) 2 1 ≤ a → (u == 0 && a == 0) ≡ false
past u a h = grind (arith, nat_tests)

other : (u : ℕ) → 1 ≤ u → (u == 0) ≡ false
other u h = grind (arith, nat_tests)

lacking_goes : (u t a b : ℕ) → 1 ≤ u → goes u t a b ≡ false
lacking_goes u t a b h = grind (arith, nat_tests)

lacking_ends : (u a : ℕ) → 1 ≤ u → (u == 0 && a == 0) ≡ false
lacking_ends u a h = grind (arith, nat_tests)

unit_sound : (u : ℕ) → SoundUnit (homing_unit u)
unit_sound u = record {
  some_state = states_some (u == 0);
  few_states = states_few (u == 0);
  starts = omega (arith, states_some (u == 0));
  arcs = λ t a b. arc_sound (goes u t a b);
  no_period = λ t a b h. no_arc (goes u t a b) (late u t a b h);
  no_from = λ t a b h. no_arc (goes u t a b) (from_nowhere u t a b h);
  no_to = λ t a b h. no_arc (goes u t a b) (to_nowhere u t a b h);
  costs = λ t a b q. near_zero 500000000;
  no_cost = λ t a b q h. refl;
  no_end = past u;
}

pub homing_sound : Sound homing_meaning
homing_sound = record {
  few = omega arith;
  each = unit_sound;
  lacking = λ u h. record {
    states = cond-false (u == 0) 2 1 (other u h);
    start = refl;
    arc = λ t a b. no_arc (goes u t a b) (lacking_goes u t a b h);
    ends = λ a. lacking_ends u a h;
  };
}
