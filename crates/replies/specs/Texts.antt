-- The text of replies. Assumes nothing.
use Rattle.std.specs.Prelude.{ℕ, ◌+◌, List, [], ◌∷◌, ◌++◌, ℤ, codes, decimal}
use Rattle.std.specs.Fmt.{signed_decimal}
use Rattle.terms.specs.declared.decline.Decline.{Decline}
use Rattle.terms.specs.declared.decline.Layer.{Layer}
use Rattle.terms.specs.declared.decline.Layer.TheVariants.{Reader, Fleet, Docket}
use Rattle.terms.specs.Declines.{layer_of, number_of}
use Rattle.terms.specs.declared.entry.Entry.{Entry}
use Rattle.settlement.specs.declared.verdicts.Judgement.{Judgement}
use Rattle.settlement.specs.Words.{word_of}
use Rattle.replies.specs.declared.reply.Reply.{Reply}
use Rattle.replies.specs.declared.reply.Reply.TheVariants.{Nothing, No, Supply, Show, Verdict}

abbrev pub layer_text : Layer → List ℕ
layer_text Reader = codes "reader"
layer_text Fleet = codes "fleet"
layer_text Docket = codes "docket"

-- (no LAYER NUMBER LINE PLACE)
abbrev pub no_text : Decline → ℕ → List ℕ
no_text d line =
    codes "(no " ++ (layer_text (layer_of d.cause) ++ (codes " " ++ (decimal (number_of d.cause) ++ (codes " " ++ (decimal line ++ (codes " " ++ (decimal d.place ++ codes ")\n")))))))

-- a blank and (a q), for each
abbrev pub entries_text : List Entry → List ℕ
entries_text [] = []
entries_text (e ∷ es) = codes " (" ++ (decimal e.state ++ (codes " " ++ (signed_decimal e.output ++ (codes ")" ++ entries_text es))))

-- (pay UNIT PAY) on a line of its own, for each from unit u on
abbrev pub pays_text : ℕ → List ℤ → List ℕ
pays_text u [] = []
pays_text u (p ∷ ps) = codes "(pay " ++ (decimal u ++ (codes " " ++ (signed_decimal p ++ (codes ")\n" ++ pays_text (u + 1) ps))))

-- (verdict WORD (uplift U) (over D) (gap G) (weight W))
abbrev pub verdict_text : Judgement → List ℕ
verdict_text j =
    codes "(verdict " ++ (word_of j.verdict ++ (codes " (uplift " ++ (signed_decimal j.uplift ++ (codes ") (over " ++ (decimal j.over ++ (codes ") (gap " ++ (signed_decimal j.gap ++ (codes ") (weight " ++ (decimal j.weight ++ codes "))\n")))))))))

abbrev pub reply_text : Reply → List ℕ
reply_text Nothing = []
reply_text (No d line) = no_text d line
reply_text (Supply u best least most) =
    codes "(supply " ++ (decimal u ++ (codes " " ++ (signed_decimal best ++ (codes " " ++ (signed_decimal least ++ (codes " " ++ (signed_decimal most ++ codes ")\n")))))))
reply_text (Show u schedule) = codes "(show " ++ (decimal u ++ (entries_text schedule.items ++ codes ")\n"))
reply_text (Verdict pays j) = pays_text 0 pays.items ++ verdict_text j
