-- The letters dropped are document 01's lines: no answer's line has a newline in it, and no refusal's line begins with 00.
use Rattle.std.specs.Prelude.{◌≡◌, refl, Bool, true, false, not, ◌&&◌, List, [], ◌∷◌, ◌++◌, map, ℕ, zero, suc, ◌<◌, ◌/◌, ◌%◌, ltb}
use Rattle.std.proofs.Common.{sym, ap, ◌∙◌, arith, ne_eqb}
use Rattle.std.proofs.Math.Option.{Option, some, none}
use Rattle.lists.specs.Tests.{either, and_l, and_r, not_true}
use Rattle.lists.specs.Questions.{Question, ◌asks◌, put_all}
use Rattle.protocol.specs.declared.Entry.{Entry}
use Rattle.protocol.specs.declared.Packet.{Packet}
use Rattle.protocol.specs.declared.Rule.{Rule}
use Rattle.protocol.specs.declared.Rule.TheVariants.{AskFound, AskWorked, AskNew, GrantDropped, GrantOld, GrantReceived, GrantNew, DataFilled, DataDropped, Other}
use Rattle.protocol.specs.declared.Answer.{Answer}
use Rattle.protocol.specs.declared.Answer.TheVariants.{Accepted, Shown, Lost, Refused}
use Rattle.protocol.specs.Parts.{State, start}
use Rattle.protocol.specs.Frames.{Line, Frame, job, inject, deliver, work, checkpoint, crash, restart, show, withdraw, frame}
use Rattle.protocol.specs.Lines.{newline, extend, lines, printed_digit, hexadecimal, two_decimals, line_01, letter, ending, line, print}
use Rattle.protocol.specs.Questions as questions
use Rattle.protocol.specs.Step.{Outcome, accept, crash_outcome, deliver_outcome, work_outcome, outcome, judged, play, step_frame, step, answers_from, answers, answers_01}
use Rattle.protocol.specs.Changes.Letters.{begins_with_00, without_last, drop_letter, Letters}

-- ---- the lines of what is printed
-- no newline is in it: what is printed comes after it in the code
abbrev Plain : Line → Type 0
Plain [] = Unit {0}
Plain (b ∷ l) = (newline < b) × Plain l

plain_append : (l m : Line) → Plain l → Plain m → Plain (l ++ m)
plain_append [] m p q = q
plain_append (b ∷ l) m p q = (p.0, plain_append l m p.1 q)

cut_off : (l : Line) (r : List ℕ) → Plain l → lines (l ++ (newline ∷ r)) ≡ l ∷ lines r
unfolding lines
cut_off [] r p = refl
cut_off (b ∷ l) r p = rw (ne_eqb b newline (λ e. absurd (let h = p.0 in omega arith)), cut_off l r p.1) (unfold extend in refl)

printed_lines : (f : Answer → Line) → ((a : Answer) → Plain (f a)) → (l : List Answer) → lines (print f l) ≡ map f l
unfolding print
printed_lines f p [] = unfold lines in refl
printed_lines f p (a ∷ l) = cut_off (f a) (print f l) (p a) ∙ ap (f a ∷◌) (printed_lines f p l)

plain_digit : (n : ℕ) → newline < printed_digit n
unfolding printed_digit
plain_digit n = either (ltb n 10) (λ e. rw e (omega arith)) (λ e. rw e (omega arith))

plain_hexadecimal : (k n : ℕ) → Plain (hexadecimal k n)
unfolding hexadecimal
plain_hexadecimal zero n = tt
plain_hexadecimal (suc k) n = plain_append (hexadecimal k (n / 16)) _ (plain_hexadecimal k (n / 16)) (plain_digit (n % 16), tt)

plain_01 : (a : Answer) → Plain (line_01 a)
unfolding line_01 two_decimals
plain_01 (Accepted r) = (omega arith, (omega arith, tt))
plain_01 (Shown h s) = (omega arith, (omega arith, plain_append (hexadecimal 4 h) _ (plain_hexadecimal 4 h) (plain_hexadecimal 8 s)))
plain_01 Lost = (omega arith, (omega arith, tt))
plain_01 (Refused n) = (omega arith, (omega arith, tt))

plain_letter : (r : Rule) → newline < letter r
unfolding letter
plain_letter AskFound = omega arith
plain_letter AskWorked = omega arith
plain_letter AskNew = omega arith
plain_letter GrantDropped = omega arith
plain_letter GrantOld = omega arith
plain_letter GrantReceived = omega arith
plain_letter GrantNew = omega arith
plain_letter DataFilled = omega arith
plain_letter DataDropped = omega arith
plain_letter Other = omega arith

plain_ending : (a : Answer) → Plain (ending a)
unfolding ending
plain_ending (Accepted r) = (plain_letter r, tt)
plain_ending (Shown h s) = (plain_letter Other, tt)
plain_ending Lost = tt
plain_ending (Refused n) = tt

plain : (a : Answer) → Plain (line a)
unfolding line
plain a = plain_append (line_01 a) (ending a) (plain_01 a) (plain_ending a)

-- ---- one line
abbrev Dropped : Answer → Type 0
Dropped a = drop_letter (line a) ≡ line_01 a

last_off : (l : Line) (b : ℕ) → without_last (l ++ (b ∷ [])) ≡ l
unfolding without_last
last_off [] b = refl
last_off (a ∷ []) b = refl
last_off (a ∷ c ∷ l) b = ap (a ∷◌) (last_off (c ∷ l) b)

accepted : (r : Rule) → Dropped (Accepted r)
unfolding drop_letter begins_with_00 without_last line line_01 ending
accepted r = refl

shown : (h s : ℕ) → Dropped (Shown h s)
unfolding drop_letter begins_with_00 line line_01 ending
shown h s = last_off (48 ∷ 48 ∷ (hexadecimal 4 h ++ hexadecimal 8 s)) (letter Other)

lost : Dropped Lost
unfolding drop_letter begins_with_00 line line_01 ending
lost = refl

refused : (n : ℕ) → begins_with_00 (two_decimals n) ≡ false → Dropped (Refused n)
unfolding drop_letter line line_01 ending two_decimals
refused n e = rw e

-- ---- the numbers of the questions: none is printed as 00
abbrev told : List Question → Bool
told [] = true
told (n asks b ∷ l) = not (begins_with_00 (two_decimals n)) && told l

packet_told : (s : State) (o : Option Packet) → told (questions.packet_questions s o) ≡ true
unfolding questions.packet_questions begins_with_00 two_decimals
packet_told s none = refl
packet_told s (some x) = refl

entry_told : (s : State) (c : ℕ) (o : Option Entry) → told (questions.entry_questions s c o) ≡ true
unfolding questions.entry_questions begins_with_00 two_decimals
entry_told s c none = refl
entry_told s c (some e) = refl

all_told : (s : State) (f : Frame) → told (questions.questions s f) ≡ true
unfolding questions.questions questions.job_questions questions.inject_questions questions.deliver_questions questions.work_questions questions.checkpoint_questions questions.crash_questions questions.restart_questions questions.show_questions questions.withdraw_questions begins_with_00 two_decimals
all_told s (job b) = refl
all_told s (inject c value hops) = refl
all_told s (deliver k a r n) = packet_told s _
all_told s (work c) = entry_told s c _
all_told s (checkpoint p) = refl
all_told s (crash p) = refl
all_told s (restart p) = refl
all_told s (show c) = refl
all_told s (withdraw c) = refl

judged_dropped : (s : State) (l : List Question) (o : Outcome) → told l ≡ true → Dropped o.answer → Dropped (judged s (put_all l o)).answer
unfolding judged put_all
judged_dropped s [] o t d = d
judged_dropped s (n asks true ∷ l) o t d = judged_dropped s l o (and_r (not (begins_with_00 (two_decimals n))) _ t) d
judged_dropped s (n asks false ∷ l) o t d = refused n (not_true _ (and_l _ (told l) t))

-- ---- one frame, and the whole input
deliver_dropped : (s : State) (k a r n : ℕ) (o : Option Packet) → Dropped (deliver_outcome s k a r n o).answer
unfolding deliver_outcome accept
deliver_dropped s k a r n none = accepted _
deliver_dropped s k a r n (some x) = accepted _

work_dropped : (s : State) (c : ℕ) (o : Option Entry) → Dropped (work_outcome s c o).answer
unfolding work_outcome accept
work_dropped s c none = accepted _
work_dropped s c (some e) = accepted _

crash_dropped : (s : State) (p : ℕ) (b : Bool) → Dropped (crash_outcome s p b).answer
unfolding crash_outcome accept
crash_dropped s p true = accepted _
crash_dropped s p false = lost

outcome_dropped : (s : State) (f : Frame) → Dropped (outcome s f).answer
unfolding outcome accept
outcome_dropped s (job b) = accepted _
outcome_dropped s (inject c value hops) = accepted _
outcome_dropped s (deliver k a r n) = deliver_dropped s k a r n _
outcome_dropped s (work c) = work_dropped s c _
outcome_dropped s (checkpoint p) = accepted _
outcome_dropped s (crash p) = crash_dropped s p _
outcome_dropped s (restart p) = accepted _
outcome_dropped s (show c) = shown _ _
outcome_dropped s (withdraw c) = accepted _

frame_dropped : (s : State) (f : Option Frame) → Dropped (step_frame s f).answer
unfolding step_frame play
frame_dropped s none = refused 1 (unfold begins_with_00 two_decimals in refl)
frame_dropped s (some f) = judged_dropped s (questions.questions s f) (outcome s f) (all_told s f) (outcome_dropped s f)

all_dropped : (s : State) (ls : List Line) → map drop_letter (map line (answers_from s ls)) ≡ map line_01 (answers_from s ls)
unfolding answers_from step
all_dropped s [] = refl
all_dropped s (l ∷ ls) = rw (frame_dropped s (frame l), all_dropped (step s l).state ls)

pub letters : Letters
unfolding answers answers_01
letters = record {
  dropped = λ input.
      let l = answers_from start (lines input) in
      ap (map drop_letter) (printed_lines line plain l) ∙ all_dropped start (lines input) ∙ sym (printed_lines line_01 plain_01 l);
}
