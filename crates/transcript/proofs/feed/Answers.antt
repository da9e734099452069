-- `feed`: what was taken so far is read, and its answers are written.
use Rattle.std.specs.Prelude.{List, ◌++◌, ◌≡◌, ℕ, ◌+◌, ◌-◌, ◌≤◌, ◌<◌, min, length, take, drop}
use Rattle.std.proofs.Common.{ap, sym, ◌∙◌, arith, rules, length-drop, take_all}
use Rattle.store.specs.View.{view, outcome}
use Rattle.arrays.specs.Copies.{take_min}
use Rattle.lines.specs.LineEnd.{line_end, line_end_le, line_part}
use Rattle.transcript.specs.{Reading.{LINE, line_room, within}, Feeding.{nothing_yet, fed_turn, fed_stop, at_end, no_room}, View.{reading, fed}}
use Rattle.transcript.proofs.feed.Goals as goal

opened : (s line : List ℕ) (n k : ℕ) → k ≡ min n (length line) → within (view s) (take k line) ≡ reading s line n
unfolding reading
opened s line n k e = ap (within (view s)) (ap (λ (j : ℕ). take j line) e ∙ take_min n line)

-- the next newline, or the end of the input
found : (i : List ℕ) (t n : ℕ) → n ≡ line_end (take (length i - t) (drop t i)) → n ≡ line_end (drop t i)
found i t n e = e ∙ ap line_end (take_all (length i - t) (drop t i) (omega (arith, length-drop t i)))

there : (i : List ℕ) (t n : ℕ) → n ≡ line_end (take (length i - t) (drop t i)) → t ≤ length i → t + n ≤ length i
there i t n e h = omega (arith, found i t n e, line_end_le (drop t i), length-drop t i)

-- what is kept of the line
kept : (line i next : List ℕ) (len t n k : ℕ) → length line ≡ LINE → n ≡ line_end (take (length i - t) (drop t i))
    → take k next ≡ take (length line) (take len line ++ take (t + n - t) (drop t i)) → take k next ≡ take line_room (take len line ++ line_part (drop t i))
unfolding line_room
kept line i next len t n k size e h =
    let m : t + n - t ≡ line_end (drop t i) = omega (arith, found i t n e) in
    h ∙ rw (size, m)

pub loop-out-init : goal.loop-out-init
loop-out-init c = (search rules, search rules, search rules, search rules, nothing_yet _ _ _)

pub returns-then-out-written-lt-ANSWER : goal.returns-then-out-written-lt-ANSWER
returns-then-out-written-lt-ANSWER c =
    let l = c.loop-out in
    fed _ _ (opened _ _ _ _ (c.min-len.ensures ∙ ap (min c.args.n) (sym c.told-line))) _ _ _ _ _ _ _ _ l.invariant.4 (no_room _ _ _ _ _ _ _ l.invariant.4 (omega (arith, c.if-out-written-lt-ANSWER.true, l.invariant.3))) l.invariant.2 l.invariant.1

pub overflow_add-end : goal.overflow_add-end
overflow_add-end c = omega (arith, there _ _ _ c.line_end.ensures c.loop-out.invariant.4.within_input)

pub slice_bounds-keep-end-in-loop-out : goal.slice_bounds-keep-end-in-loop-out
slice_bounds-keep-end-in-loop-out c = there _ _ _ c.line_end.ensures c.loop-out.invariant.4.within_input

pub returns-then-end-input : goal.returns-then-end-input
returns-then-end-input c =
    let l = c.loop-out in
    let is-kept = kept _ _ _ _ _ _ _ l.invariant.1 c.line_end.ensures c.keep-len.ensures.bytes in
    let is-end = ap (l.taken +◌) (found c.args.input.now l.taken _ c.line_end.ensures) in
    let inv = fed_stop _ _ _ _ _ _ _ _ l.invariant.4 (omega (arith, c.if-out-written-lt-ANSWER.false, l.invariant.3)) _ is-kept _ is-end c.if-end-input.true in
    fed _ _ (opened _ _ _ _ (c.min-len.ensures ∙ ap (min c.args.n) (sym c.told-line))) _ _ _ _ _ _ _ _ inv (at_end _ _ _ _ _ _ _ inv c.if-end-input.true) (omega (arith, c.keep-len.ensures.count, l.invariant.1)) (c.keep-len.auto.line ∙ l.invariant.1)

pub loop-out-preserved : goal.loop-out-preserved
unfolding outcome
loop-out-preserved c =
    let l = c.loop-out in
    let is-kept = kept _ _ _ _ _ _ _ l.invariant.1 c.line_end.ensures c.keep-len.ensures.bytes in
    let is-end = ap (l.taken +◌) (found c.args.input.now l.taken _ c.line_end.ensures) in
    let ends : l.taken + c.line_end.result < length c.args.input.now = omega (arith, there _ _ _ c.line_end.ensures l.invariant.4.within_input, c.if-end-input.false) in (
      c.step-a.array_long,
      c.keep-len.auto.line ∙ l.invariant.1,
      omega arith,
      c.put-written.auto.out ∙ l.invariant.3,
      fed_turn _ _ _ _ _ _ _ _ l.invariant.4 (omega (arith, c.if-out-written-lt-ANSWER.false, l.invariant.3)) _ is-kept _ is-end ends _ c.step-a.ensures.gives _ _ c.put-written.ensures.count c.put-written.ensures.bytes,
    )
