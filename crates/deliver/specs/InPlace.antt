-- Frame 11 in place: what its functions leave of the store's parts, put into the store, is what the frame leaves of the state.
use Rattle.std.specs.Prelude.{◌≡◌, refl, List, [], ◌∷◌, ◌++◌, ℕ, ◌<◌, ◌≤◌, length, Option, None, Some, Result, Ok, Err}
use Rattle.std.proofs.Common.{sym, ap, ◌∙◌, arith, length-append, length-take, length-drop}
use Rattle.lists.specs.{Map.upd, Options.maybe, Questions.{Question, put_all, put_ok}}
use Rattle.arrays.specs.Front.{push_fits}
use Rattle.protocol.specs.{declared.Rule.Rule, declared.Rule.TheVariants.Other, declared.Answer.TheVariants.{Accepted, Refused}, declared.Packet.Packet, declared.Content.Content, declared.Content.TheVariants.Ack as ACK, declared.Refusal.Refusal}
use Rattle.protocol.specs.{Numbers.number, Parts.{State, wire_room}, Setters.{with_wire, with_memory, with_notes}, Sending.put as sent, Packets.{note_of, reply}, Step.{Outcome, judged}}
use Rattle.words.specs.{Part.{part, put, part_length, part_behind, put_same}, Rows.without}
use Rattle.head.specs.Head.{job_of}
use Rattle.notelist.specs.Notes.{notes}
use Rattle.packets.specs.{Words.{packets, fit_content}, Fits.{Fits, packets_fit}}
use Rattle.memory.specs.{Places.MEMORY, View.memory_view}
use Rattle.store.specs.{Places.{NOTELIST, WIRE, PACKETS, STORE, live_from, notes_from}, View.{view, outcome, done, Framed}, Framing.{refuses, accepts}}
use Rattle.store.specs.{ViewLaws.{live_at, wire_at, notes_at, live_length, live_put, wire_kept, notes_length, notes_put, wire_put}}
use Rattle.deliver.specs.{declared.arrive.Done.Done, Effect.{effect, effect_questions}, NoteEffect.{note_effect, note_questions}, Arrival.{with_reply, put_effect, put_notes}}
use Rattle.deliver.specs.{View.{effect_of, answered, Asked}, Fits.{fit_reply, reply_fits, answer_fits}}
use Rattle.deliver.specs.Frame.{then, taken_off, Waits, chare_outcome, note_outcome}

-- ---- a part of the store, j words from a on, is put questions and becomes ys: it gives r, and f is what follows
module _ (xs : List ℕ) {A X : Type 0} {questions : List Question} {next : X} {g : A → X} (f : X → Outcome) (a j : ℕ) (ys : List ℕ) {r : Result A Refusal}
    (came : Asked questions next g (part a j xs) ys r) where
  lent_refused : {e : Refusal} → r ≡ Err e → Framed xs (put a j xs ys) (Refused (number e)) (judged (view xs) (then f (put_all questions next)))
  unfolding judged then
  lent_refused {e} is = rw (ap (put a j xs) (came.stays e is) ∙ put_same a j xs, ← came.gives, is) (refuses xs (number e) refl)

  lent_done : {x : A} → r ≡ Ok x → (u : Rule) (zs : List ℕ) → done u (view zs) ≡ f (g x) → Framed xs zs (Accepted u) (judged (view xs) (then f (put_all questions next)))
  unfolding judged then outcome
  lent_done is u zs e = rw (← came.gives, is, ← e) (accepts xs zs refl)

-- an answer goes to the end of a wire with room
wire_answered : (s : State) (l : List Packet) (p : Packet) (y : Option Content) → Fits p → fit_reply (maybe y) ≡ maybe y → length l < wire_room → with_wire s (answered l p y) ≡ with_reply (with_wire s l) p (maybe y)
unfolding answered with_reply fit_reply
wire_answered s l p None b f h = refl
wire_answered s l p (Some c) b f h = unfold reply sent in ap (with_wire s) (push_fits wire_room l _ h ∙ ap (λ q. l ++ (q ∷ [])) (answer_fits p c b f))

-- ---- the packet p is at a place on the wire
module _ (xs : List ℕ) (size : length xs ≡ STORE) (at : ℕ) (p : Packet) (waits : Waits (view xs) at p) where
  room : length (without at (view xs).wire) < wire_room
  unfolding without
  room =
      let h : length (view xs).wire ≤ wire_room = rw (wire_at xs) (omega (arith, packets_fit (part WIRE PACKETS xs), part_length WIRE PACKETS xs (omega arith))) in
      simp (length-append, length-take, length-drop) (omega (arith, waits.here))

  -- the wire zs without the packet, and with an answer; ws is the store before the wire is put
  answer_put : (ws zs : List ℕ) (t : State) (y : Option Content) → length ws ≡ STORE → view ws ≡ t → part WIRE PACKETS ws ≡ part WIRE PACKETS xs → length zs ≡ PACKETS → fit_reply (maybe y) ≡ maybe y
      → packets zs ≡ answered (without at (packets (part WIRE PACKETS ws))) p y
      → view (put WIRE PACKETS ws zs) ≡ with_reply (with_wire t (without at (view xs).wire)) p (maybe y)
  answer_put ws zs t y wide seen kept long fit e =
      wire_put ws wide zs long
      ∙ rw (seen, e, kept, ← wire_at xs) (wire_answered t (without at (view xs).wire) p y waits.fits fit room)

  -- the memory of chare c becomes ys
  module _ (c : ℕ) (small : c < 13) (ys : List ℕ) (long : length ys ≡ MEMORY) {r : Result Done Refusal}
      (came : Asked (effect_questions (memory_view (part (live_from c) MEMORY xs)) p p.content) (effect (memory_view (part (live_from c) MEMORY xs)) p p.content) (effect_of ys) (part (live_from c) MEMORY xs) ys r) where
    pub chare_refused : {e : Refusal} → r ≡ Err e → Framed xs (put (live_from c) MEMORY xs ys) (Refused (number e)) (chare_outcome (view xs) c at p)
    unfolding chare_outcome
    chare_refused is = rw (live_at xs c small) (lent_refused xs _ (live_from c) MEMORY ys came is)

    reply_sent : {d : Done} → r ≡ Ok d → fit_reply (maybe d.reply) ≡ maybe d.reply
    unfolding effect_of
    reply_sent {d} is =
        let m = memory_view (part (live_from c) MEMORY xs) in
        let q = (put_ok (effect_questions m p p.content) (effect m p p.content) (effect_of ys d) (sym (rw is at came.gives))).1 in
        let e : maybe d.reply ≡ (effect m p p.content).reply = sym (ap (λ e. e.reply) q) in
        rw e (reply_fits (part (live_from c) MEMORY xs) p p.content)

    pub chare_done : {d : Done} → r ≡ Ok d → (zs : List ℕ) → length zs ≡ PACKETS → packets zs ≡ answered (without at (packets (part WIRE PACKETS (put (live_from c) MEMORY xs ys)))) p d.reply
        → Framed xs (put WIRE PACKETS (put (live_from c) MEMORY xs ys) zs) (Accepted d.rule) (chare_outcome (view xs) c at p)
    unfolding chare_outcome put_effect effect_of
    chare_done {d} is zs wide e = rw (live_at xs c small) (lent_done xs (λ y. done y.rule (put_effect (taken_off (view xs) at) c p y)) (live_from c) MEMORY ys came is _ _
        (ap (done d.rule) (answer_put (put (live_from c) MEMORY xs ys) zs (with_memory (view xs) c (memory_view ys)) d.reply
        (live_length xs size c small ys long) (live_put xs size c small ys long) (wire_kept xs size c small ys long) wide (reply_sent is) e)))

  -- the notes kept for the receiver's machine, h, become ys
  module _ (t h : ℕ) (home : h ≡ (job_of xs).home p.receiver) (small : h < 7) (ys : List ℕ) (long : length ys ≡ NOTELIST) {U : Type 0} {r : Result U Refusal}
      (came : Asked (note_questions (notes (part (notes_from h) NOTELIST xs)) (note_of p t)) (note_effect (notes (part (notes_from h) NOTELIST xs)) (note_of p t)) (λ _. notes ys) (part (notes_from h) NOTELIST xs) ys r) where
    home_is : h ≡ (view xs).job.home p.receiver
    unfolding view
    home_is = home

    pub note_refused : {e : Refusal} → r ≡ Err e → Framed xs (put (notes_from h) NOTELIST xs ys) (Refused (number e)) (note_outcome (view xs) at p t)
    unfolding note_outcome
    note_refused is = rw (← home_is, notes_at xs h small) (lent_refused xs _ (notes_from h) NOTELIST ys came is)

    pub note_done : {u : U} → r ≡ Ok u → (zs : List ℕ) → length zs ≡ PACKETS → packets zs ≡ answered (without at (packets (part WIRE PACKETS (put (notes_from h) NOTELIST xs ys)))) p (Some ACK)
        → Framed xs (put WIRE PACKETS (put (notes_from h) NOTELIST xs ys) zs) (Accepted Other) (note_outcome (view xs) at p t)
    unfolding note_outcome put_notes with_reply fit_reply fit_content
    note_done is zs wide e = rw (← home_is, notes_at xs h small) (lent_done xs (λ y. done Other (put_notes (taken_off (view xs) at) h p y)) (notes_from h) NOTELIST ys came is _ _
        (ap (done Other) (answer_put (put (notes_from h) NOTELIST xs ys) zs (with_notes (view xs) (upd h (notes ys) (view xs).notes)) (Some ACK)
        (notes_length xs size h small ys long) (notes_put xs size h small ys long)
        (part_behind (notes_from h) NOTELIST xs ys (omega arith) long WIRE PACKETS (omega arith)) wide refl e)))
