-- The names of the forms. Assumes nothing.
use Rattle.std.specs.Prelude.{ℕ, Bool, cond, List, Some, None, Option, codes}
use Rattle.std.specs.Str.{bytes_eq}
use Rattle.words.specs.Lines.{Word}
use Rattle.words.specs.Grammar.{State, Answer, Reader, got, no, first, past}
use Rattle.reader.specs.declared.names.FormName.{FormName}
use Rattle.reader.specs.declared.names.FormName.TheVariants.{Day, Steam, Ramp, Lake, Buyer, Out, Need, Price, Run, Mix, Supply, Show, Judge}

abbrev pub name_of : FormName → List ℕ
name_of Day = codes "day"
name_of Steam = codes "steam"
name_of Ramp = codes "ramp"
name_of Lake = codes "lake"
name_of Buyer = codes "buyer"
name_of Out = codes "out"
name_of Need = codes "need"
name_of Price = codes "price"
name_of Run = codes "run"
name_of Mix = codes "mix"
name_of Supply = codes "supply"
name_of Show = codes "show"
name_of Judge = codes "judge"

abbrev pub same : List ℕ → List ℕ → Bool
same t w = bytes_eq t w

-- the form that a word names
unfoldable pub named : List ℕ → Option FormName
named t =
    cond (same t (codes "day")) (Some Day)
    (cond (same t (codes "steam")) (Some Steam)
    (cond (same t (codes "ramp")) (Some Ramp)
    (cond (same t (codes "lake")) (Some Lake)
    (cond (same t (codes "buyer")) (Some Buyer)
    (cond (same t (codes "out")) (Some Out)
    (cond (same t (codes "need")) (Some Need)
    (cond (same t (codes "price")) (Some Price)
    (cond (same t (codes "run")) (Some Run)
    (cond (same t (codes "mix")) (Some Mix)
    (cond (same t (codes "supply")) (Some Supply)
    (cond (same t (codes "show")) (Some Show)
    (cond (same t (codes "judge")) (Some Judge)
    None))))))))))))

-- a word that names no form: 4
abbrev pub name_at : State → ℕ → Option FormName → Answer FormName
name_at s p None = no 4 p
name_at s p (Some k) = got k (past s)

abbrev pub name_in : State → Option Word → Answer FormName
name_in s None = no 5 s.end
name_in s (Some x) = name_at s x.place (named x.text)

unfoldable pub read_name : Reader FormName
read_name s = name_in s (first s)
