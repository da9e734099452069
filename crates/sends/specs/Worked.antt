-- An entry's message worked on the five words of a memory, and the first question that refuses it.
use Rattle.std.specs.Prelude.{◌≡◌, true, false, ◌&&◌, List, [], ◌∷◌, ℕ, ◌+◌, ◌%◌, ◌<◌, ◌≤◌, leb, Result, Ok, Err, IfOk}
use Rattle.std.proofs.Common.{sym, ◌∙◌, arith, le-leb}
use Rattle.std.proofs.lemmas.Bool.{lt-leb}
use Rattle.lists.specs.Questions.{◌asks◌, first_no}
use Rattle.protocol.specs.{declared.Entry.Entry, declared.Refusal.Refusal, declared.Refusal.TheVariants.{Missing, TooHigh}, Numbers.refusal_of}
use Rattle.protocol.specs.{Parts.Memory, Work.work, Working.work_entry, Questions.mark_after}
use Rattle.window.specs.{declared.Slid.Slid, Bits.{window_bits, TakenIn}}
use Rattle.memory.specs.{declared.Numbers.Numbers, Numbers.{taken, with_numbers}, View.{memory_view, state_at, height_at, mark_at, window_at}}
use Rattle.sends.specs.Works.{own_questions}

-- x are words that m has for the sender s
pub record NumbersOf (m : Memory) (s : ℕ) (x : Numbers) : Type 0 where
  pub state : x.state % 4294967296 ≡ m.state
  pub height : x.height % 65536 ≡ m.height
  pub mark : x.mark % 65536 ≡ m.mark s
  pub window : window_bits x.window ≡ m.window s

pub numbers_taken : (ws : List ℕ) (s : ℕ) → s < 16 → NumbersOf (memory_view ws) s (taken ws s)
unfolding taken
numbers_taken ws s h = record { state = state_at ws; height = height_at ws; mark = mark_at ws s h; window = window_at ws s h }

-- words that a memory can hold as they are
pub record Small (x : Numbers) : Type 0 where
  pub state : x.state < 4294967296
  pub height : x.height < 65536
  pub mark : x.mark < 65536

-- x are the words before, y those afterwards
pub record WorkedInto (x : Numbers) (e : Entry) (y : Numbers) : Type 0 where
  pub memory : (m : Memory) → NumbersOf m e.sender x → with_numbers m e.sender y ≡ work_entry m e
  pub small : Small y

pub record WorkedAs (x : Numbers) (e : Entry) (r : Result Numbers Refusal) : Type 0 where
  pub answer : (m : Memory) → NumbersOf m e.sender x → refusal_of r ≡ first_no (own_questions m e)
  pub numbers : IfOk r (WorkedInto x e)

module _ (x : Numbers) (e : Entry) where
  pub not_ready : (e.received && e.noted) ≡ false → WorkedAs x e (Err Missing)
  unfolding first_no own_questions
  not_ready f = record { answer = λ m is. rw f; numbers = tt }

  -- h is the height
  module _ (f : (e.received && e.noted) ≡ true) (h : ℕ) (h-is : h ≡ x.height % 65536) where
    pub too_high : 60000 ≤ h → WorkedAs x e (Err TooHigh)
    unfolding first_no own_questions
    too_high g = record {
      answer = λ m is.
          let q : 60000 < m.height + 1 = omega (arith, is.height) in
          rw (f, lt-leb (m.height + 1) 60000 q);
      numbers = tt;
    }

    -- k is the mark, and d the mark and the window that the entry's SN leaves
    module _ (low : h < 60000) (k : ℕ) (k-is : k ≡ x.mark % 65536) (d : Slid) (takes : TakenIn k x.window e.sn d) where
      asked : (m : Memory) → NumbersOf m e.sender x → first_no (own_questions m e) ≡ first_no (7 asks leb d.mark 60000 ∷ [])
      unfolding first_no own_questions mark_after
      asked m is =
          let q : m.height + 1 ≤ 60000 = omega (arith, is.height) in
          rw (f, le-leb (m.height + 1) 60000 q, takes.mark_risen, k-is, is.mark, is.window)

      pub mark_too_high : 60000 < d.mark → WorkedAs x e (Err TooHigh)
      unfolding first_no
      mark_too_high g = record { answer = λ m is. sym (asked m is ∙ rw (lt-leb d.mark 60000 g)); numbers = tt }

      -- u is the state, and w the one that the value leaves
      pub worked : (u w : ℕ) → u ≡ x.state % 4294967296 → w ≡ work u e.value → w < 4294967296 → d.mark ≤ 60000
          → WorkedAs x e (Ok (record { state = w; height = h + 1; mark = d.mark; window = d.window }))
      unfolding first_no with_numbers work_entry
      worked u w u-is w-is w-in g = record {
        answer = λ m is. sym (asked m is ∙ rw (le-leb d.mark 60000 g));
        numbers = record {
          memory = λ m is. rw (w-is, u-is, h-is, takes.mark_risen, takes.window_slid, k-is, is.state, is.height, is.mark, is.window);
          small = record { state = w-in; height = omega arith; mark = omega arith };
        };
      }
