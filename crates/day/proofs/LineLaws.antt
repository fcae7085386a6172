-- A file is its lines, and has no others. Assumes nothing.
use Rattle.std.proofs.Common.{◌≡◌, ℕ, List, [], ◌∷◌, ◌++◌, sym, refl, ap, ◌∙◌, subst, inl, inr}
use Rattle.std.specs.Prelude.{◌≢◌, ◌==◌}
use Rattle.std.proofs.lemmas.Bool.{cases_Bool, cond-true, cond-false, eqb-true, eqb-false}
use Rattle.day.specs.Cutting.{onto_first, lines_of, OneLine, LinesAre, LinesLaw}

none_some : {P : Type 0} (b : ℕ) (l : List ℕ) → b ∷ l ≡ [] → P
none_some b l e = cc

first_is : (b c : ℕ) (l m : List ℕ) → b ∷ l ≡ c ∷ m → b ≡ c
first_is b c l m e = cc

rest_is : (b c : ℕ) (l m : List ℕ) → b ∷ l ≡ c ∷ m → l ≡ m
rest_is b c l m e = cc

-- a byte that is no newline, before the first line
onto : (b : ℕ) (bs : List ℕ) (ls : List (List ℕ)) → b ≢ 10 → LinesAre bs ls → LinesAre (b ∷ bs) (onto_first b ls)
onto b bs [] n h = ((n, tt), inl ((λ e. none_some b [] e), ap (λ l. b ∷ l) h, refl))
onto b bs (l ∷ ls) n (o, inl (s, e, z)) = ((n, o), inl ((λ x. none_some b l x), ap (λ m. b ∷ m) e, z))
onto b bs (l ∷ ls) n (o, inr (rest, e, r)) = ((n, o), inr (rest, ap (λ m. b ∷ m) e, r))

lines_are : (file : List ℕ) → LinesAre file (lines_of file)
lines_are [] = refl
lines_are (b ∷ bs) =
    elim (cases_Bool (b == 10)) [
      | inl y ↦ subst (LinesAre (b ∷ bs)) (sym (cond-true (b == 10) _ _ y)) (tt, inr (bs, ap (λ c. c ∷ bs) (eqb-true b 10 y), lines_are bs))
      | inr z ↦ subst (LinesAre (b ∷ bs)) (sym (cond-false (b == 10) _ _ z)) (onto b bs (lines_of bs) (eqb-false b 10 z) (lines_are bs))
    ]

-- a line holds no newline
no_newline : {P : Type 0} (l m rest : List ℕ) → OneLine l → l ≡ m ++ (10 ∷ rest) → P
no_newline [] [] rest o e = none_some 10 rest (sym e)
no_newline [] (c ∷ m) rest o e = none_some c (m ++ (10 ∷ rest)) (sym e)
no_newline (b ∷ l) [] rest o e = absurd (o.0 (first_is b 10 l rest e))
no_newline (b ∷ l) (c ∷ m) rest o e = no_newline l m rest o.1 (rest_is b c l (m ++ (10 ∷ rest)) e)

same_line : (l m rest others : List ℕ) → OneLine l → OneLine m → l ++ (10 ∷ rest) ≡ m ++ (10 ∷ others) → (l ≡ m) × (rest ≡ others)
same_line [] [] rest others o p e = (refl, rest_is 10 10 rest others e)
same_line [] (c ∷ m) rest others o p e = absurd (p.0 (sym (first_is 10 c rest (m ++ (10 ∷ others)) e)))
same_line (b ∷ l) [] rest others o p e = absurd (o.0 (first_is b 10 (l ++ (10 ∷ rest)) others e))
same_line (b ∷ l) (c ∷ m) rest others o p e =
    let first = first_is b c (l ++ (10 ∷ rest)) (m ++ (10 ∷ others)) e in
    let r = same_line l m rest others o.1 p.1 (rest_is b c (l ++ (10 ∷ rest)) (m ++ (10 ∷ others)) e) in
    ((λ i. first i ∷ r.0 i), r.1)

-- neither a line nor a newline is nothing
empty : {P : Type 0} (file : List ℕ) (l : List ℕ) (ls : List (List ℕ)) → file ≡ [] → LinesAre file (l ∷ ls) → P
empty file l ls e (o, inl (s, f, z)) = absurd (s (sym f ∙ e))
empty file l ls e (o, inr (rest, f, r)) = no_newline [] l rest tt (sym e ∙ f)

once : (file : List ℕ) (ls ms : List (List ℕ)) → LinesAre file ls → LinesAre file ms → ls ≡ ms
once file [] [] h k = refl
once file [] (m ∷ ms) h k = empty file m ms h k
once file (l ∷ ls) [] h k = empty file l ls k h
once file (l ∷ ls) (m ∷ ms) (o, inl (s, e, z)) (p, inl (t, f, y)) = λ i. (sym e ∙ f) i ∷ (z ∙ sym y) i
once file (l ∷ ls) (m ∷ ms) (o, inl (s, e, z)) (p, inr (rest, f, r)) = no_newline l m rest o (sym e ∙ f)
once file (l ∷ ls) (m ∷ ms) (o, inr (rest, e, r)) (p, inl (t, f, y)) = no_newline m l rest p (sym f ∙ e)
once file (l ∷ ls) (m ∷ ms) (o, inr (rest, e, r)) (p, inr (others, f, q)) =
    let same = same_line l m rest others o p (sym e ∙ f) in
    let after = once rest ls ms r (subst (λ x. LinesAre x ms) (sym same.1) q) in
    λ i. same.0 i ∷ after i

pub lines_law : LinesLaw
lines_law = record { lines = lines_are; once = once }
