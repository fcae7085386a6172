-- What the worked days print: each line's reply stands, and with it the text of the file. Assumes nothing.
use Rattle.std.proofs.Common.{◌≡◌, ℕ, ◌+◌, ◌<◌, ◌≤ℤ◌, ◌-ℤ◌, ◌*ℤ◌, List, [], ◌∷◌, ◌++◌, length, replicate, get_or, drop, ℤ, pos, Some, None, Option, Ok, Err, refl, sym, subst, ◌∙◌, inl, inr, arith}
use Rattle.std.specs.Prelude.{codes}
use Rattle.std.specs.Fmt.{digits}
use Rattle.terms.proofs.Sums.{sum_to_same}
use Rattle.terms.specs.declared.decline.Decline.{Decline}
use Rattle.terms.specs.declared.decline.Cause.TheVariants.{MixesMissNeed}
use Rattle.terms.specs.declared.entry.Entry.{Entry}
use Rattle.fleet.specs.Rows.{Fault}
use Rattle.fleet.specs.Gains.{Supply, First}
use Rattle.fleet.specs.Uplifts.{pay_of}
use Rattle.reader.specs.declared.offer.Offer.TheVariants.{Steam}
use Rattle.reader.specs.declared.form.Form.{Form}
use Rattle.reader.specs.declared.form.Form.TheVariants as form
use Rattle.reader.specs.Names.{named, read_name}
use Rattle.reader.specs.Forms.{line_told, told_of}
use Rattle.words.specs.Lines.{words_from}
use Rattle.words.specs.Grammar.{word, end, number, up_to}
use Rattle.settlement.specs.declared.verdicts.Judgement.{Judgement}
use Rattle.settlement.specs.declared.verdicts.Verdict.{Verdict as AVerdict}
use Rattle.settlement.specs.declared.verdicts.Verdict.TheVariants.{Least, Within}
use Rattle.settlement.specs.Ledger.{Ledger, Call, need, price, run, mix, supply, show, judge, held_back, ledger}
use Rattle.settlement.specs.Evidence.{Evidence, AllBest, run_of, uplift_at, gap_at}
use Rattle.settlement.specs.Reasons.{Declined, wrong}
use Rattle.settlement.specs.Verdicts.{Judges}
use Rattle.settlement.proofs.Carries.{no_fault}
use Rattle.settlement.proofs.Duality.{bests, pay_nonneg, every_row, least_row, zero_gap}
use Rattle.settlement.proofs.Ledgers.{ledger_law}
use Rattle.settlement.proofs.Never.{never_31}
use Rattle.replies.specs.declared.reply.Reply.{Reply}
use Rattle.replies.specs.declared.reply.Reply.TheVariants as reply
use Rattle.replies.specs.Texts.{reply_text}
use Rattle.day.specs.Cutting.{lines_of}
use Rattle.day.specs.Said.{Said, nothing, after_form}
use Rattle.day.specs.Answering.{EntersReply, SupplyReplied, ShowReplied, JudgeReplied, FormReply}
use Rattle.day.specs.Settling.{TextOfLines, Settled}
use Rattle.day.proofs.OneText.{one_text}
use Rattle.edge_days.specs.Days.{first, second, both, on, off, calls, half_off, day_at}
use Rattle.edge_days.specs.EdgeDays.{at_place}
use Rattle.edge_days.specs.Files.{Prints, worked_day, worked_text, within_day, within_text, missed_day, missed_text, FileDays}
use Rattle.edge_days.proofs.Stand.{edge_days, supply_five, show_five, not_best, none_wrong, both_sound, both_units, missed, ten, miss, short}

-- what each line reads to --

day_1_2_line : line_told (codes "(day 1 2)") ≡ told_of (Ok (Some (form.Day 1 2)))
unfolding words_from word end number up_to named read_name
day_1_2_line = refl

first_line : line_told (codes "(steam (run 1 10) (rest 1 1 1) (start 0 0) (idle 0) (steps (10 5)) (was on 1))") ≡ told_of (Ok (Some (form.Offer (Steam first))))
unfolding words_from word end number up_to named read_name
first_line = refl

second_line : line_told (codes "(steam (run 4 4) (rest 1 1 1) (start 16 16) (idle 0) (steps (4 2)) (was off 1))") ≡ told_of (Ok (Some (form.Offer (Steam second))))
unfolding words_from word end number up_to named read_name
second_line = refl

need_12_line : line_told (codes "(need 12)") ≡ told_of (Ok (Some (form.Need (record { items = pos 12 ∷ [] }))))
unfolding words_from word end number up_to named read_name
need_12_line = refl

price_1_6_line : line_told (codes "(price 1 6)") ≡ told_of (Ok (Some (form.Price 1 (record { items = pos 6 ∷ [] }))))
unfolding words_from word end number up_to named read_name
price_1_6_line = refl

run_0_0_8_line : line_told (codes "(run 0 (0 8))") ≡ told_of (Ok (Some (form.Run 0 (record { items = record { state = 0; output = pos 8 } ∷ [] }))))
unfolding words_from word end number up_to named read_name
run_0_0_8_line = refl

run_1_0_4_line : line_told (codes "(run 1 (0 4))") ≡ told_of (Ok (Some (form.Run 1 (record { items = record { state = 0; output = pos 4 } ∷ [] }))))
unfolding words_from word end number up_to named read_name
run_1_0_4_line = refl

mix_0_2_0_10_line : line_told (codes "(mix 0 2 (0 10))") ≡ told_of (Ok (Some (form.Mix 0 2 (record { items = record { state = 0; output = pos 10 } ∷ [] }))))
unfolding words_from word end number up_to named read_name
mix_0_2_0_10_line = refl

mix_1_1_0_4_line : line_told (codes "(mix 1 1 (0 4))") ≡ told_of (Ok (Some (form.Mix 1 1 (record { items = record { state = 0; output = pos 4 } ∷ [] }))))
unfolding words_from word end number up_to named read_name
mix_1_1_0_4_line = refl

mix_1_1_1_0_line : line_told (codes "(mix 1 1 (1 0))") ≡ told_of (Ok (Some (form.Mix 1 1 (record { items = record { state = 1; output = pos 0 } ∷ [] }))))
unfolding words_from word end number up_to named read_name
mix_1_1_1_0_line = refl

judge_line : line_told (codes "(judge)") ≡ told_of (Ok (Some (form.Judge)))
unfolding words_from word end number up_to named read_name
judge_line = refl

price_1_5_line : line_told (codes "(price 1 5)") ≡ told_of (Ok (Some (form.Price 1 (record { items = pos 5 ∷ [] }))))
unfolding words_from word end number up_to named read_name
price_1_5_line = refl

supply_0_line : line_told (codes "(supply 0)") ≡ told_of (Ok (Some (form.Supply 0)))
unfolding words_from word end number up_to named read_name
supply_0_line = refl

show_0_line : line_told (codes "(show 0)") ≡ told_of (Ok (Some (form.Show 0)))
unfolding words_from word end number up_to named read_name
show_0_line = refl

mix_1_2_0_4_line : line_told (codes "(mix 1 2 (0 4))") ≡ told_of (Ok (Some (form.Mix 1 2 (record { items = record { state = 0; output = pos 4 } ∷ [] }))))
unfolding words_from word end number up_to named read_name
mix_1_2_0_4_line = refl

-- a file, line by line --

-- what each line reads to, and a reply that answers it
abbrev Played : List (List ℕ) → Said → ℕ → Type 0
Played [] s n = Unit {0}
Played (line ∷ lines) s n =
    (f : Form) × (r : Reply) × (line_told line ≡ told_of (Ok (Some f))) × FormReply s f n r × Played lines (after_form s f) (n + 1)

-- the text of these replies
abbrev text_of : (lines : List (List ℕ)) (s : Said) (n : ℕ) → Played lines s n → List ℕ
text_of [] s n p = []
text_of (line ∷ lines) s n (f, r, e, a, p) = reply_text r ++ text_of lines (after_form s f) (n + 1) p

played : (lines : List (List ℕ)) (s : Said) (n : ℕ) (p : Played lines s n) → TextOfLines lines s n (text_of lines s n p)
played [] s n p = refl
played (line ∷ lines) s n (f, r, e, a, p) = record {
  reading = Ok (Some f);
  read = sym e;
  reply = r;
  answered = a;
  rest = text_of lines (after_form s f) (n + 1) p;
  others = played lines (after_form s f) (n + 1) p;
  text_is = refl;
}

-- calls that say nothing --

none_some : {P : Type 0} (f : Fault) → ◌≡◌ {A = Option Fault} None (Some f) → P
none_some f e = cc

unfaulted : (cs : List Call) (c : Call) → held_back both 1 2 (ledger both 1 2 cs) c ≡ None → ((f : Fault) → wrong both 1 2 (ledger both 1 2 cs) c f → ⊥) → (f : Fault) → Declined both 1 2 (ledger both 1 2 cs) c f → ⊥
unfaulted cs c h w f (inl e) = none_some f (sym h ∙ e)
unfaulted cs c h w f (inr x) = w f x.1

silent : (cs : List Call) (c : Call) (n : ℕ) → held_back both 1 2 (ledger both 1 2 cs) c ≡ None → ((f : Fault) → wrong both 1 2 (ledger both 1 2 cs) c f → ⊥) → EntersReply c n reply.Nothing both 1 2 (ledger both 1 2 cs)
silent cs c n h w = (Ok tt, (unfaulted cs c h w, tt), refl)

-- nothing but a 31 is wrong with a run, and no 31 comes
run_fits : (cs : List Call) (u : ℕ) (es : List Entry) → held_back both 1 2 (ledger both 1 2 cs) (run u es 3920) ≡ None → (f : Fault) → wrong both 1 2 (ledger both 1 2 cs) (run u es 3920) f → ⊥
run_fits cs u es h f (inl x) = never_31 both both_sound 1 2 (omega arith) cs (run u es 3920) f (inr (h, inl x)) x.0
run_fits cs u es h f (inr x) = x.1

ran : (cs : List Call) (u : ℕ) (es : List Entry) (n : ℕ) → held_back both 1 2 (ledger both 1 2 cs) (run u es 3920) ≡ None → EntersReply (run u es 3920) n reply.Nothing both 1 2 (ledger both 1 2 cs)
ran cs u es n h = silent cs (run u es 3920) n h (run_fits cs u es h)

-- the verdicts --

-- what judge answers with the whole evidence
record Verdict (l : Ledger) (old new : List ℤ) (j : Judgement) : Type 0 where
  evidence : Evidence both 1 2 l
  uplift : j.uplift ≡ uplift_at both 1 l.prices l
  gap : j.gap ≡ gap_at both 1 l.prices l
  over : j.over ≡ l.prices.over
  weight : j.weight ≡ 2
  pay : (u : ℕ) → u < 2 → get_or new u (pos 0) ≡ pay_of (both.model u) 1 l.prices (run_of l u)
  room : length old ≡ 64
  long : length new ≡ length old
  past : drop 2 new ≡ drop 2 old
  least : j.verdict ≡ Least → AllBest both 1 l
  so_least : AllBest both 1 l → j.verdict ≡ Least
  within : j.verdict ≡ Within → AllBest both 1 l → ⊥
  so_within : (AllBest both 1 l → ⊥) → j.verdict ≡ Within

judges : (cs : List Call) (old new : List ℤ) (j : Judgement) → ((room : ℕ) → room ≡ 64 → (f : Fault) → Declined both 1 2 (ledger both 1 2 cs) (judge room) f → ⊥) → Verdict (ledger both 1 2 cs) old new j → Judges both 1 2 (ledger both 1 2 cs) old new (Ok j)
judges cs old new j undeclined v =
    let l = ledger both 1 2 cs in
    let k = ledger_law both 1 2 cs in
    let e = v.evidence in
    let none : j.verdict ≡ Least → gap_at both 1 l.prices l ≡ pos 0 = λ x. zero_gap both both_sound 1 2 l k (v.least x) in
    record {
      answer = (undeclined (length old) v.room, tt);
      bound = record {
        bests = bests both both_sound 1 2 l k e;
        every_row = λ r.
            subst (λ (u : ℤ). (pos r.over *ℤ (pos 2 *ℤ u -ℤ j.gap)) ≤ℤ (pos l.prices.over *ℤ (pos 2 *ℤ uplift_at both 1 r l))) (sym v.uplift)
            (subst (λ (g : ℤ). (pos r.over *ℤ (pos 2 *ℤ uplift_at both 1 l.prices l -ℤ g)) ≤ℤ (pos l.prices.over *ℤ (pos 2 *ℤ uplift_at both 1 r l))) (sym v.gap)
            (every_row both both_sound 1 2 l k e r));
        no_gap = λ x. v.gap ∙ none x;
        least = λ x r. subst (λ (u : ℤ). (pos r.over *ℤ u) ≤ℤ (pos l.prices.over *ℤ uplift_at both 1 r l)) (sym v.uplift) (least_row both both_sound 1 2 l k e (omega arith) (none x) r);
      };
      pays = record {
        most = bests both both_sound 1 2 l k e l.prices;
        pay = v.pay;
        not_below = λ u lt. subst (λ (z : ℤ). pos 0 ≤ℤ z) (sym (v.pay u lt)) (pay_nonneg both both_sound 1 2 l k e u lt);
        adds_up = v.uplift ∙ sum_to_same 2 _ _ (λ u lt. sym (v.pay u lt));
        gap = v.gap;
        over = v.over;
        weight = v.weight;
        long = v.long;
        past = v.past;
      };
      exactly = λ _ _. record {
        least = λ x. (e, v.least x);
        so_least = λ _ a. v.so_least a;
        within = λ x. (e, v.within x);
        so_within = λ _ n. v.so_within n;
      };
      kept = tt;
    }

abbrev zeros : List ℤ
zeros = replicate 64 (pos 0)

abbrev pays : ℤ → ℤ → List ℤ
pays a b = a ∷ b ∷ replicate 62 (pos 0)

-- with the whole evidence nothing is wrong, whatever the room of 64 is called
undeclined : (cs : List Call) → Evidence both 1 2 (ledger both 1 2 cs) → held_back both 1 2 (ledger both 1 2 cs) (judge 64) ≡ None → (room : ℕ) → room ≡ 64 → (f : Fault) → Declined both 1 2 (ledger both 1 2 cs) (judge room) f → ⊥
undeclined cs e h room is f d =
    no_fault both 1 2 (ledger both 1 2 cs) (judge 64) h (none_wrong cs e h) f (subst (λ z. Declined both 1 2 (ledger both 1 2 cs) (judge z) f) is d)

never : {P : Type 0} → ◌≡◌ {A = AVerdict} Within Least → P
never e = cc

abbrev least_judgement : Judgement
least_judgement = record { verdict = Least; uplift = pos 2; over = 1; gap = pos 0; weight = 2 }

least : (n : ℕ) → JudgeReplied n (reply.Verdict (record { items = pos 2 ∷ pos 0 ∷ [] }) least_judgement) both 1 2 (day_at 6)
least n =
    let s = edge_days.at_six in
    let best = edge_days.least in (
      Ok least_judgement,
      zeros,
      pays (pos 2) (pos 0),
      refl,
      judges (calls 6 half_off) zeros (pays (pos 2) (pos 0)) least_judgement (undeclined (calls 6 half_off) s.evidence refl) (record {
        evidence = s.evidence;
        uplift = sym s.uplift_is;
        gap = sym s.gap_is;
        over = refl;
        weight = refl;
        pay = both_units _ (sym s.first_pay) (sym s.second_pay);
        room = refl;
        long = refl;
        past = refl;
        least = λ _. best;
        so_least = λ _. refl;
        within = λ x. never (sym x);
        so_within = λ n. absurd (n best);
      }),
      (refl, refl),
    )

abbrev within_judgement : Judgement
within_judgement = record { verdict = Within; uplift = pos 4; over = 1; gap = pos 4; weight = 2 }

within : (n : ℕ) → JudgeReplied n (reply.Verdict (record { items = pos 0 ∷ pos 4 ∷ [] }) within_judgement) both 1 2 (day_at 5)
within n =
    let s = edge_days.at_five in (
      Ok within_judgement,
      zeros,
      pays (pos 0) (pos 4),
      refl,
      judges (calls 5 half_off) zeros (pays (pos 0) (pos 4)) within_judgement (undeclined (calls 5 half_off) s.evidence refl) (record {
        evidence = s.evidence;
        uplift = sym s.uplift_is;
        gap = sym s.gap_is;
        over = refl;
        weight = refl;
        pay = both_units _ (sym s.first_pay) (sym s.second_pay);
        room = refl;
        long = refl;
        past = refl;
        least = λ x. never x;
        so_least = λ a. absurd (not_best a);
        within = λ _. not_best;
        so_within = λ _. refl;
      }),
      (refl, refl),
    )

-- supply and show at 5 cents --

supplied : (cs : List Call) → (ledger both 1 2 cs).prices ≡ record { over = 1; numerators = pos 5 ∷ [] } → held_back both 1 2 (ledger both 1 2 cs) (supply 0 3920 3920) ≡ None → (n : ℕ) → SupplyReplied 0 n (reply.Supply 0 (pos 0) (pos 0) (pos 10)) both 1 2 (ledger both 1 2 cs)
supplied cs e h n = (Ok (pos 0, pos 0, pos 10), (unfaulted cs (supply 0 3920 3920) h fits, subst (λ r. Supply (both.model 0) 1 r (pos 0, pos 0, pos 10)) (sym e) supply_five), refl)
  where
    fits : (f : Fault) → wrong both 1 2 (ledger both 1 2 cs) (supply 0 3920 3920) f → ⊥
    fits f (inl x) = never_31 both both_sound 1 2 (omega arith) cs (supply 0 3920 3920) f (inr (h, inl x)) x.0
    fits f (inr (a, inl x)) = x.1.1 (on 10) ten.scheduled
    fits f (inr (a, inr x)) = x.1

abbrev blank : Entry
blank = record { state = 0; output = pos 0 }

shown : (cs : List Call) → (ledger both 1 2 cs).prices ≡ record { over = 1; numerators = pos 5 ∷ [] } → held_back both 1 2 (ledger both 1 2 cs) (show 0 3920 48) ≡ None → (n : ℕ) → ShowReplied 0 n (reply.Show 0 (record { items = on 1 })) both 1 2 (ledger both 1 2 cs)
shown cs e h n = (Ok tt, replicate 48 blank, record { state = 0; output = pos 1 } ∷ replicate 47 blank, refl, ((unfaulted cs (show 0 3920 48) h fits, subst (λ r. First (both.model 0) 1 r (on 1)) (sym e) show_five), refl), (refl, refl))
  where
    fits : (f : Fault) → wrong both 1 2 (ledger both 1 2 cs) (show 0 3920 48) f → ⊥
    fits f (inl x) = never_31 both both_sound 1 2 (omega arith) cs (show 0 3920 48) f (inr (h, inl x)) x.0
    fits f (inr (a, inl x)) = x.1.1 (on 10) ten.scheduled
    fits f (inr (a, inr x)) = x.1

-- the mixes that miss --

declined : (n : ℕ) → JudgeReplied n (reply.No (record { cause = MixesMissNeed; place = 0 }) n) both 1 2 short
declined n =
    let d : Decline = record { cause = MixesMissNeed; place = 0 } in (
      Err d,
      zeros,
      zeros,
      refl,
      record {
        answer = (at_place 44 0, miss 64 refl, record { layer = refl; number = refl; place = refl });
        bound = tt;
        pays = tt;
        exactly = λ _ _. record {
          least = λ x. absurd x;
          so_least = λ e _. missed.fails (e.mixes_meet 0 (omega arith));
          within = λ x. absurd x;
          so_within = λ e _. missed.fails (e.mixes_meet 0 (omega arith));
        };
        kept = refl;
      },
      refl,
    )

abbrev worked_played : Played (lines_of worked_day) nothing 1
worked_played = (
  form.Day 1 2,
  reply.Nothing,
  day_1_2_line,
  refl,
  (
    form.Offer (Steam first),
    reply.Nothing,
    first_line,
    refl,
    (
      form.Offer (Steam second),
      reply.Nothing,
      second_line,
      refl,
      (
        form.Need (record { items = pos 12 ∷ [] }),
        reply.Nothing,
        need_12_line,
        silent ([]) (need (pos 12 ∷ [])) 4 refl (λ f x. x),
        (
          form.Price 1 (record { items = pos 6 ∷ [] }),
          reply.Nothing,
          price_1_6_line,
          silent (need (pos 12 ∷ []) ∷ []) (price 1 (pos 6 ∷ [])) 5 refl (λ f x. x),
          (
            form.Run 0 (record { items = record { state = 0; output = pos 8 } ∷ [] }),
            reply.Nothing,
            run_0_0_8_line,
            ran (need (pos 12 ∷ []) ∷ price 1 (pos 6 ∷ []) ∷ []) 0 (on 8) 6 refl,
            (
              form.Run 1 (record { items = record { state = 0; output = pos 4 } ∷ [] }),
              reply.Nothing,
              run_1_0_4_line,
              ran (need (pos 12 ∷ []) ∷ price 1 (pos 6 ∷ []) ∷ run 0 (on 8) 3920 ∷ []) 1 (on 4) 7 refl,
              (
                form.Mix 0 2 (record { items = record { state = 0; output = pos 10 } ∷ [] }),
                reply.Nothing,
                mix_0_2_0_10_line,
                silent (need (pos 12 ∷ []) ∷ price 1 (pos 6 ∷ []) ∷ run 0 (on 8) 3920 ∷ run 1 (on 4) 3920 ∷ []) (mix 0 2 (on 10)) 8 refl (λ f x. x),
                (
                  form.Mix 1 1 (record { items = record { state = 0; output = pos 4 } ∷ [] }),
                  reply.Nothing,
                  mix_1_1_0_4_line,
                  silent (need (pos 12 ∷ []) ∷ price 1 (pos 6 ∷ []) ∷ run 0 (on 8) 3920 ∷ run 1 (on 4) 3920 ∷ mix 0 2 (on 10) ∷ []) (mix 1 1 (on 4)) 9 refl (λ f x. x),
                  (
                    form.Mix 1 1 (record { items = record { state = 1; output = pos 0 } ∷ [] }),
                    reply.Nothing,
                    mix_1_1_1_0_line,
                    silent (need (pos 12 ∷ []) ∷ price 1 (pos 6 ∷ []) ∷ run 0 (on 8) 3920 ∷ run 1 (on 4) 3920 ∷ mix 0 2 (on 10) ∷ mix 1 1 (on 4) ∷ []) (mix 1 1 off) 10 refl (λ f x. x),
                    (form.Judge, reply.Verdict (record { items = pos 2 ∷ pos 0 ∷ [] }) least_judgement, judge_line, least 11, tt),
                  ),
                ),
              ),
            ),
          ),
        ),
      ),
    ),
  ),
)

worked_settled : Settled worked_day worked_text
unfolding digits
worked_settled = played (lines_of worked_day) nothing 1 worked_played

abbrev within_played : Played (lines_of within_day) nothing 1
within_played = (
  form.Day 1 2,
  reply.Nothing,
  day_1_2_line,
  refl,
  (
    form.Offer (Steam first),
    reply.Nothing,
    first_line,
    refl,
    (
      form.Offer (Steam second),
      reply.Nothing,
      second_line,
      refl,
      (
        form.Need (record { items = pos 12 ∷ [] }),
        reply.Nothing,
        need_12_line,
        silent ([]) (need (pos 12 ∷ [])) 4 refl (λ f x. x),
        (
          form.Price 1 (record { items = pos 5 ∷ [] }),
          reply.Nothing,
          price_1_5_line,
          silent (need (pos 12 ∷ []) ∷ []) (price 1 (pos 5 ∷ [])) 5 refl (λ f x. x),
          (
            form.Supply 0,
            reply.Supply 0 (pos 0) (pos 0) (pos 10),
            supply_0_line,
            supplied (need (pos 12 ∷ []) ∷ price 1 (pos 5 ∷ []) ∷ []) refl refl 6,
            (
              form.Show 0,
              reply.Show 0 (record { items = on 1 }),
              show_0_line,
              shown (need (pos 12 ∷ []) ∷ price 1 (pos 5 ∷ []) ∷ supply 0 3920 3920 ∷ []) refl refl 7,
              (
                form.Run 0 (record { items = record { state = 0; output = pos 8 } ∷ [] }),
                reply.Nothing,
                run_0_0_8_line,
                ran (need (pos 12 ∷ []) ∷ price 1 (pos 5 ∷ []) ∷ supply 0 3920 3920 ∷ show 0 3920 48 ∷ []) 0 (on 8) 8 refl,
                (
                  form.Run 1 (record { items = record { state = 0; output = pos 4 } ∷ [] }),
                  reply.Nothing,
                  run_1_0_4_line,
                  ran (need (pos 12 ∷ []) ∷ price 1 (pos 5 ∷ []) ∷ supply 0 3920 3920 ∷ show 0 3920 48 ∷ run 0 (on 8) 3920 ∷ []) 1 (on 4) 9 refl,
                  (
                    form.Mix 0 2 (record { items = record { state = 0; output = pos 10 } ∷ [] }),
                    reply.Nothing,
                    mix_0_2_0_10_line,
                    silent (need (pos 12 ∷ []) ∷ price 1 (pos 5 ∷ []) ∷ supply 0 3920 3920 ∷ show 0 3920 48 ∷ run 0 (on 8) 3920 ∷ run 1 (on 4) 3920 ∷ []) (mix 0 2 (on 10)) 10 refl (λ f x. x),
                    (
                      form.Mix 1 1 (record { items = record { state = 0; output = pos 4 } ∷ [] }),
                      reply.Nothing,
                      mix_1_1_0_4_line,
                      silent (need (pos 12 ∷ []) ∷ price 1 (pos 5 ∷ []) ∷ supply 0 3920 3920 ∷ show 0 3920 48 ∷ run 0 (on 8) 3920 ∷ run 1 (on 4) 3920 ∷ mix 0 2 (on 10) ∷ []) (mix 1 1 (on 4)) 11 refl (λ f x. x),
                      (
                        form.Mix 1 1 (record { items = record { state = 1; output = pos 0 } ∷ [] }),
                        reply.Nothing,
                        mix_1_1_1_0_line,
                        silent (need (pos 12 ∷ []) ∷ price 1 (pos 5 ∷ []) ∷ supply 0 3920 3920 ∷ show 0 3920 48 ∷ run 0 (on 8) 3920 ∷ run 1 (on 4) 3920 ∷ mix 0 2 (on 10) ∷ mix 1 1 (on 4) ∷ []) (mix 1 1 off) 12 refl (λ f x. x),
                        (
                          form.Judge,
                          reply.Verdict (record { items = pos 0 ∷ pos 4 ∷ [] }) within_judgement,
                          judge_line,
                          within 13,
                          (
                            form.Supply 0,
                            reply.Supply 0 (pos 0) (pos 0) (pos 10),
                            supply_0_line,
                            supplied (need (pos 12 ∷ []) ∷ price 1 (pos 5 ∷ []) ∷ supply 0 3920 3920 ∷ show 0 3920 48 ∷ run 0 (on 8) 3920 ∷ run 1 (on 4) 3920 ∷ mix 0 2 (on 10) ∷ mix 1 1 (on 4) ∷ mix 1 1 off ∷ judge 64 ∷ []) refl refl 14,
                            (form.Show 0, reply.Show 0 (record { items = on 1 }), show_0_line, shown (need (pos 12 ∷ []) ∷ price 1 (pos 5 ∷ []) ∷ supply 0 3920 3920 ∷ show 0 3920 48 ∷ run 0 (on 8) 3920 ∷ run 1 (on 4) 3920 ∷ mix 0 2 (on 10) ∷ mix 1 1 (on 4) ∷ mix 1 1 off ∷ judge 64 ∷ supply 0 3920 3920 ∷ []) refl refl 15, tt),
                          ),
                        ),
                      ),
                    ),
                  ),
                ),
              ),
            ),
          ),
        ),
      ),
    ),
  ),
)

within_settled : Settled within_day within_text
unfolding digits
within_settled = played (lines_of within_day) nothing 1 within_played

abbrev missed_played : Played (lines_of missed_day) nothing 1
missed_played = (
  form.Day 1 2,
  reply.Nothing,
  day_1_2_line,
  refl,
  (
    form.Offer (Steam first),
    reply.Nothing,
    first_line,
    refl,
    (
      form.Offer (Steam second),
      reply.Nothing,
      second_line,
      refl,
      (
        form.Need (record { items = pos 12 ∷ [] }),
        reply.Nothing,
        need_12_line,
        silent ([]) (need (pos 12 ∷ [])) 4 refl (λ f x. x),
        (
          form.Price 1 (record { items = pos 6 ∷ [] }),
          reply.Nothing,
          price_1_6_line,
          silent (need (pos 12 ∷ []) ∷ []) (price 1 (pos 6 ∷ [])) 5 refl (λ f x. x),
          (
            form.Run 0 (record { items = record { state = 0; output = pos 8 } ∷ [] }),
            reply.Nothing,
            run_0_0_8_line,
            ran (need (pos 12 ∷ []) ∷ price 1 (pos 6 ∷ []) ∷ []) 0 (on 8) 6 refl,
            (
              form.Run 1 (record { items = record { state = 0; output = pos 4 } ∷ [] }),
              reply.Nothing,
              run_1_0_4_line,
              ran (need (pos 12 ∷ []) ∷ price 1 (pos 6 ∷ []) ∷ run 0 (on 8) 3920 ∷ []) 1 (on 4) 7 refl,
              (
                form.Mix 0 2 (record { items = record { state = 0; output = pos 10 } ∷ [] }),
                reply.Nothing,
                mix_0_2_0_10_line,
                silent (need (pos 12 ∷ []) ∷ price 1 (pos 6 ∷ []) ∷ run 0 (on 8) 3920 ∷ run 1 (on 4) 3920 ∷ []) (mix 0 2 (on 10)) 8 refl (λ f x. x),
                (
                  form.Mix 1 2 (record { items = record { state = 0; output = pos 4 } ∷ [] }),
                  reply.Nothing,
                  mix_1_2_0_4_line,
                  silent (need (pos 12 ∷ []) ∷ price 1 (pos 6 ∷ []) ∷ run 0 (on 8) 3920 ∷ run 1 (on 4) 3920 ∷ mix 0 2 (on 10) ∷ []) (mix 1 2 (on 4)) 9 refl (λ f x. x),
                  (form.Judge, reply.No (record { cause = MixesMissNeed; place = 0 }) 10, judge_line, declined 10, tt),
                ),
              ),
            ),
          ),
        ),
      ),
    ),
  ),
)

missed_settled : Settled missed_day missed_text
unfolding digits
missed_settled = played (lines_of missed_day) nothing 1 missed_played

prints : (file text : List ℕ) → Settled file text → Prints file text
prints file text h = record { settled = h; alone = λ t k. one_text file t text k h }

pub file_days : FileDays
file_days = record {
  worked = prints worked_day worked_text worked_settled;
  within = prints within_day within_text within_settled;
  missed = prints missed_day missed_text missed_settled;
}
