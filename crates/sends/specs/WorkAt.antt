-- An entry worked where the store stands: the five words written, the sends made; or the five words written back.
use Rattle.std.specs.Prelude.{◌≡◌, ◌≢◌, Ok, Err, List, ℕ, ◌-◌, ◌+◌, ◌%◌, ◌<◌, ◌≤◌, length}
use Rattle.std.proofs.Common.{sym, ap, ◌∙◌, arith}
use Rattle.std.proofs.Math.Option.{some}
use Rattle.lists.specs.Questions.{first_no}
use Rattle.protocol.specs.{declared.Rule.TheVariants.Other, declared.Answer.TheVariants.{Accepted, Refused}, declared.Entry.Entry, declared.Refusal.Refusal, Numbers.{number, number_not_zero}}
use Rattle.protocol.specs.{Parts.Memory, Setters.with_memory, Work.{ports, receivers, sent_value}}
use Rattle.protocol.specs.{Working.{work_entry, worked_only, receivers_of, value_out, hops_out}}
use Rattle.words.specs.Part.{part, put, part_length, part_put, put_again, put_same}
use Rattle.memory.specs.{declared.Numbers.Numbers, Places.MEMORY, Numbers.{taken, given, with_numbers, give_back, numbers_given}, View.memory_view}
use Rattle.store.specs.{Places.{STORE, live_from}, View.{view, Framed}, ViewLaws.{live_at, live_changed}, Framing.{refuses as refused, accepts as accepted}}
use Rattle.sends.specs.{Made.{Made, sends_made, sends_refused}, Sends.tried_sends, Worked.{NumbersOf, numbers_taken, WorkedAs}}
use Rattle.sends.specs.{Works.{own_questions, tried_work, own_refused, own_passed}}

-- xs is the store before; old are the five words
module _ (xs : List ℕ) (size : length xs ≡ STORE) (c : ℕ) (c-in : c < 13) (e : Entry) (e-in : e.sender < 16) (old : Numbers)
    (took : old ≡ taken (part (live_from c) MEMORY xs) e.sender) where
  abbrev was : List ℕ
  was = part (live_from c) MEMORY xs

  own : NumbersOf ((view xs).live c) e.sender old
  own = rw (took, live_at xs c c-in) (numbers_taken was e.sender e-in)

  pub not_worked : (r : Refusal) → WorkedAs old e (Err r) → Framed xs xs (Refused (number r)) (tried_work (view xs) c (some e))
  not_worked r did =
      let said : number r ≡ first_no (own_questions ((view xs).live c) e) = did.answer ((view xs).live c) own in
      refused xs (number r) (own_refused (view xs) c e (λ z. number_not_zero r (said ∙ z)) ∙ rw (← said))

  -- new are the words that the work makes of them, and ys is the memory with these
  module _ (new : Numbers) (did : WorkedAs old e (Ok new)) (ys : List ℕ) (ly : length ys ≡ MEMORY) (gave : ys ≡ given was e.sender new) where
    abbrev ws : List ℕ
    ws = put (live_from c) MEMORY xs ys

    worked_is : with_numbers ((view xs).live c) e.sender new ≡ work_entry ((view xs).live c) e
    worked_is = did.numbers.memory ((view xs).live c) own

    works : view ws ≡ with_memory (view xs) c (work_entry ((view xs).live c) e)
    works =
        let s = did.numbers.small in
        let long : length was ≡ MEMORY = part_length (live_from c) MEMORY xs (omega arith) in
        live_changed xs size c c-in ys ly (λ m. with_numbers m e.sender new)
        (ap memory_view gave ∙ numbers_given was long e.sender new e-in s.state s.height s.mark)
        ∙ ap (with_memory (view xs) c) worked_is

    -- zs is the store with the sends made or refused
    module _ (zs : List ℕ) (v : ℕ) (v-is : v ≡ new.state % 65536) {n : ℕ} (m : Made ws zs c (receivers (ports (view ws).job) c e.hops) v (e.hops - 1) n) where
      passed : tried_work (view xs) c (some e) ≡ tried_sends (view xs) (view ws) c (receivers (ports (view ws).job) c e.hops) v (e.hops - 1)
      unfolding worked_only receivers_of value_out hops_out work_entry sent_value with_numbers
      passed =
          let value-is : v ≡ sent_value (work_entry ((view xs).live c) e).state = v-is ∙ ap (λ (m : Memory). m.state % 65536) worked_is in
          own_passed (view xs) c e (sym (did.answer ((view xs).live c) own)) ∙ rw (value-is, works)

      pub all_sent : n ≡ 0 → Framed xs zs (Accepted Other) (tried_work (view xs) c (some e))
      all_sent z = accepted xs zs (passed ∙ sends_made (view xs) m z)

      -- us is the memory with the old words again
      pub undone : n ≢ 0 → (us : List ℕ) → us ≡ given (part (live_from c) MEMORY zs) e.sender old
          → Framed xs (put (live_from c) MEMORY zs us) (Refused n) (tried_work (view xs) c (some e))
      undone f us back =
          let fits : live_from c + MEMORY ≤ length xs = omega arith in
          let there : part (live_from c) MEMORY ws ≡ given was e.sender new = part_put (live_from c) MEMORY xs ys fits ly ∙ gave in
          let us-is : us ≡ was = back ∙ rw (m.stays f, there, took) (give_back was e.sender new) in
          let again : put (live_from c) MEMORY zs us ≡ xs = rw (us-is, m.stays f) (put_again (live_from c) MEMORY xs ys fits ly was ∙ put_same (live_from c) MEMORY xs) in
          rw again (refused xs n (passed ∙ sends_refused (view xs) m f))
