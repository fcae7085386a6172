-- What a table's slots hold as its rows are filled. Assumes nothing.
use Rattle.std.proofs.Common.{◌≡◌, ℕ, ◌+◌, ◌*◌, ◌-◌, ◌<◌, ◌≤◌, List, ◌++◌, length, get_or, take, drop, None, Option, sym, ap, ◌∙◌, subst, ⊎_elim, arith, length-append, length-take}
use Rattle.std.proofs.lemmas.Bool.{cases_lt}
use Rattle.std.proofs.lemmas.List.{get_or_read, get_or_append_left, get_or-append_right, get_or-take, get_or-drop, length-drop}
use borrow.Rule.Slice.PartMut.{put_mid, post_of}
use Rattle.fleet.specs.Scores.{Scale}
use Rattle.fleet.specs.Units.{UnitModel}
use Rattle.fleet.specs.Schedules.{Prices}
use Rattle.fleet.specs.Table.{Best, ToGo, BestSlots, BestTable}

-- an element of a part that was written
put_in : {X : Type 0} (b k i : ℕ) (xs ys : List X) (d : X) → b ≤ length xs → b ≤ i → i < b + length ys → get_or (put_mid b k xs ys) i d ≡ get_or ys (i - b) d
put_in b k i xs ys d fits from below =
    get_or-append_right (take b xs) (ys ++ post_of b k xs) b i d (simp length-take (omega arith)) from
    ∙ get_or_append_left ys (post_of b k xs) d (i - b) (omega arith)

put_long : {X : Type 0} (b k n : ℕ) (xs ys : List X) → length ys ≡ k → b + k ≤ length xs → length xs ≡ n → length (put_mid b k xs ys) ≡ n
put_long b k n xs ys long fits is = simp (length-append, length-take, length-drop) (omega arith)

module _ {S : Type 0} (s : Scale S) (p : UnitModel) (r : Prices) where
  pub slot_best : (T t b : ℕ) (slots : List (Option S)) (o x : Option S) → BestSlots s p r T t slots → b < p.states → o ≡ get_or slots b o → o ≡ x → Best s (ToGo s p r T t b) x
  slot_best T t b slots o x row lt read is =
      let long = row.long in
      subst (Best s (ToGo s p r T t b)) (sym (get_or_read slots b o (omega arith) read None) ∙ is) (row.each b lt)

  -- a part that holds a period's row
  row_put : (T t a b k i : ℕ) (xs slots : List (Option S)) → b ≤ length xs → i ≡ b + a → a < p.states → BestSlots s p r T t slots → Best s (ToGo s p r T t a) (get_or (put_mid b k xs slots) i None)
  row_put T t a b k i xs slots fits at lt row =
      let long = row.long in
      let same : i - b ≡ a = omega arith in
      subst (Best s (ToGo s p r T t a)) (sym (put_in b k i xs slots None fits (omega arith) (omega arith) ∙ ap (λ j. get_or slots j None) same)) (row.each a lt)

  pub rows_last : (T t k : ℕ) (table slots : List (Option S)) → t ≡ T → t * 80 ≤ length table → BestSlots s p r T T slots → BestTable s p r T t (put_mid (t * 80) k table slots)
  rows_last T t k table slots end fits row = λ u a le ge lt.
      let same : T ≡ u = omega arith in
      row_put T u a (t * 80) k (u * 80 + a) table slots fits (omega arith) lt (subst (λ v. BestSlots s p r T v slots) same row)

  -- the row of a period, from the table's rear
  pub row_next : (T t n : ℕ) (table front rear : List (Option S)) → table ≡ front ++ rear → length front ≡ t * 80 → n ≡ p.states → n ≤ length rear → t ≤ T → BestTable s p r T t table → BestSlots s p r T t (take n rear)
  row_next T t n table front rear parts long all fits within rows = record {
    long = simp length-take (omega arith);
    each = λ a lt.
        let same : t * 80 + a - t * 80 ≡ a = omega arith in
        subst (Best s (ToGo s p r T t a))
        (ap (λ xs. get_or xs (t * 80 + a) None) parts ∙ get_or-append_right front rear (t * 80) (t * 80 + a) None long (omega arith) ∙ ap (λ j. get_or rear j None) same ∙ sym (get_or-take n rear a None (omega arith)))
        (rows t a (omega arith) within lt);
  }

  pub rows_next : (T t u k : ℕ) (table front rear slots : List (Option S)) → u ≡ t + 1 → table ≡ front ++ rear → length front ≡ u * 80 → length slots ≡ k → t * 80 + k ≤ u * 80 → BestSlots s p r T t slots → BestTable s p r T u table → BestTable s p r T t (put_mid (t * 80) k front slots ++ rear)
  rows_next T t u k table front rear slots next parts long wide fits row rows = λ v a le ge lt.
      let new = put_mid (t * 80) k front slots in
      let same_long : length new ≡ u * 80 = put_long (t * 80) k (u * 80) front slots wide (omega arith) long in
      let row_long = row.long in
      ⊎_elim
      (λ later. subst (Best s (ToGo s p r T v a))
      (ap (λ xs. get_or xs (v * 80 + a) None) parts ∙ get_or-append_right front rear (u * 80) (v * 80 + a) None long (omega arith) ∙ sym (get_or-append_right new rear (u * 80) (v * 80 + a) None same_long (omega arith)))
      (rows v a (omega arith) ge lt))
      (λ at. let same : t ≡ v = omega arith in
      subst (Best s (ToGo s p r T v a)) (sym (get_or_append_left new rear None (v * 80 + a) (omega arith)))
      (row_put T v a (t * 80) k (v * 80 + a) front slots (omega arith) (omega arith) lt (subst (λ w. BestSlots s p r T w slots) same row)))
      (cases_lt t v)

  -- a slot of the table
  pub rows_slot : (T u a i : ℕ) (table : List (Option S)) (o : Option S) → BestTable s p r T 0 table → u ≤ T → a < p.states → i ≡ u * 80 + a → i < length table → o ≡ get_or table i o → Best s (ToGo s p r T u a) o
  rows_slot T u a i table o rows le lt at within read =
      subst (Best s (ToGo s p r T u a)) (sym (get_or_read table i o within read None ∙ ap (λ j. get_or table j None) at)) (rows u a (omega arith) le lt)

  -- the row of a period
  pub rows_row : (T u b n : ℕ) (table : List (Option S)) → BestTable s p r T 0 table → u ≤ T → b ≡ u * 80 → n ≡ p.states → b + n ≤ length table → BestSlots s p r T u (take n (drop b table))
  rows_row T u b n table rows le at all fits = record {
    long = simp (length-take, length-drop) (omega arith);
    each = λ a lt.
        subst (Best s (ToGo s p r T u a))
        (ap (λ j. get_or table j None) (omega arith) ∙ sym (get_or-drop b table a None) ∙ sym (get_or-take n (drop b table) a None (omega arith)))
        (rows u a (omega arith) le lt);
  }
