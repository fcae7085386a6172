-- The rule of lakes, on outputs and on the states that these give. Assumes nothing.
use Rattle.std.specs.Prelude.{◌≡◌, ℕ, suc, ◌+◌, ◌*◌, ◌/◌, ◌<◌, ◌≤◌, ◌⊎◌, List, length, ℤ, pos, negsuc, ◌+ℤ◌, neg_ℤ, ◌≤ℤ◌, slice_index_or, unsigned_abs}
use Rattle.terms.specs.Sums.{sum_to}
use Rattle.reader.specs.declared.numbers.LakeNumbers.{LakeNumbers}
use Rattle.units.specs.Links.{model_of}
use Rattle.units.specs.LakeUnits.{drawn, lake_links}
use Rattle.units.specs.Agree.{OfKind, SameStates}

-- the rise that draws d lots; a draw tells its rise
abbrev pub rise_of : ℕ → ℕ
rise_of d = 10 * d / 13

abbrev pub OneToOne : Type 0
OneToOne = (r : ℕ) → rise_of (drawn r) ≡ r

-- an output is a fall of at most so much, or minus the draw of a rise of at most so much
pub record Falls (most : ℕ) (q : ℤ) : Type 0 where
  pub fall : ℕ
  pub few : fall ≤ most
  pub out : q ≡ pos fall

pub record Rises (most : ℕ) (q : ℤ) : Type 0 where
  pub rise : ℕ
  pub some : 1 ≤ rise
  pub few : rise ≤ most
  pub out : q ≡ neg_ℤ (pos (drawn rise))

abbrev pub Flows : LakeNumbers → ℤ → Type 0
Flows n q = Falls n.flow.fall q ⊎ Rises n.flow.rise q

-- how the level moves at an output: less a fall, plus a rise
abbrev pub moved : ℤ → ℤ
moved (pos f) = neg_ℤ (pos f)
moved (negsuc d) = pos (rise_of (suc d))

-- the level before period t: that before the day, less the falls plus the rises so far
abbrev pub level_before : ℤ → List ℤ → ℕ → ℤ
level_before l qs t = l +ℤ sum_to t (λ s. moved (slice_index_or qs s (pos 0)))

pub record LakeFrom (n : LakeNumbers) (l : ℤ) (qs : List ℤ) : Type 0 where
  pub flows : (t : ℕ) → t < length qs → Flows n (slice_index_or qs t (pos 0))
  pub low : (t : ℕ) → t ≤ length qs → pos 0 ≤ℤ level_before l qs t
  pub high : (t : ℕ) → t ≤ length qs → level_before l qs t ≤ℤ pos n.full
  pub ends : pos n.end ≤ℤ level_before l qs (length qs)

-- a day's outputs obey the rule of lakes
abbrev pub LakeObeys : LakeNumbers → List ℤ → Type 0
LakeObeys n qs = LakeFrom n (pos n.was) qs

-- so far: as if the day might end at any level
abbrev pub LakeSoFar : LakeNumbers → List ℤ → Type 0
LakeSoFar n qs = LakeObeys (record n { end = 0 }) qs

-- each lot of level moved costs the wear
abbrev pub lake_cost : LakeNumbers → List ℤ → ℤ
lake_cost n qs = sum_to (length qs) (λ t. pos (n.wear * unsigned_abs (moved (slice_index_or qs t (pos 0)))))

-- the state is the level
abbrev pub LakeIn : LakeNumbers → List ℤ → ℕ → ℕ → Type 0
LakeIn n qs t a = pos a ≡ level_before (pos n.was) qs t

abbrev pub LakeRule : LakeNumbers → Type 0
LakeRule n =
    OfKind (model_of (lake_links n)) (n.full + 1) (LakeObeys n) (LakeSoFar n) (LakeIn n) (lake_cost n)
    × ((l : ℕ) → SameStates (model_of (lake_links n)) (model_of (lake_links (record n { was = l }))))
    × OneToOne
