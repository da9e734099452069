-- A head is what its first words say: the store changed behind them, put anew there, or cut off after them.
use Rattle.std.specs.Prelude.{Bool, List, [], ◌∷◌, ◌≡◌, refl, ℕ, zero, suc, ◌+◌, ◌≤◌, length}
use Rattle.std.proofs.Common.{sym, ap, ◌∙◌, arith, take-take}
use Rattle.std.proofs.Math.Path.{fun_ext}
use Rattle.protocol.specs.{declared.Status.Status, Parts.Job}
use Rattle.words.specs.Part.{part, put, part_put, part_before}
use Rattle.head.specs.Head.{HEAD, BUDDY, STATUS, HELD, HOME, FIRST, SECOND, TARGET, job_of, lost_of, status_of, held_of, target_of}

-- xs begins with a head that says this
pub record Says (xs : List ℕ) (j : Job) (l : Bool) (s : ℕ → Status) (h : ℕ → Bool) (t : ℕ → ℕ) : Type 0 where
  pub job : job_of xs ≡ j
  pub lost : lost_of xs ≡ l
  pub status : status_of xs ≡ s
  pub held : held_of xs ≡ h
  pub target : target_of xs ≡ t

-- ... what that of ys says
abbrev pub SaysAs : List ℕ → List ℕ → Type 0
SaysAs xs ys = Says xs (job_of ys) (lost_of ys) (status_of ys) (held_of ys) (target_of ys)

-- a part of the first n
pub part_front : {A : Type 0} (b j n : ℕ) (xs : List A) → b + j ≤ n → part b j (part 0 n xs) ≡ part b j xs
part_front zero j n xs h = take-take j n xs (omega arith)
part_front (suc b) j zero xs h = absurd (omega arith)
part_front (suc b) j (suc n) [] h = refl
part_front (suc b) j (suc n) (x ∷ xs) h = part_front b j n xs (omega arith)

-- equal parts say the same
says_same : (xs ys : List ℕ) → ((b j : ℕ) → b + j ≤ HEAD → part b j xs ≡ part b j ys) → SaysAs xs ys
unfolding job_of lost_of status_of held_of target_of
says_same xs ys same = record {
  job = rw (same 0 4 (omega arith), same BUDDY 7 (omega arith), same HOME 13 (omega arith), same FIRST 13 (omega arith), same SECOND 13 (omega arith));
  lost = rw (same 0 4 (omega arith));
  status = fun_ext (λ p. rw (same STATUS 7 (omega arith)));
  held = fun_ext (λ p. rw (same HELD 7 (omega arith)));
  target = fun_ext (λ c. rw (same TARGET 13 (omega arith)));
}

-- ---- cut off
pub head_part : (xs : List ℕ) → SaysAs (part 0 HEAD xs) xs
head_part xs = says_same (part 0 HEAD xs) xs (λ b j h. part_front b j HEAD xs h)

-- ---- a part behind the head put anew
pub head_kept : (a k : ℕ) (xs ys : List ℕ) → a + k ≤ length xs → length ys ≡ k → HEAD ≤ a → SaysAs (put a k xs ys) xs
head_kept a k xs ys fits long h = says_same (put a k xs ys) xs (λ b j r. part_before a k xs ys fits long b j (omega arith))

-- ---- the head put anew
pub head_put : (xs ys : List ℕ) → HEAD ≤ length xs → length ys ≡ HEAD → SaysAs (put 0 HEAD xs ys) ys
head_put xs ys fits long = says_same (put 0 HEAD xs ys) ys (λ b j r. sym (part_front b j HEAD (put 0 HEAD xs ys) r) ∙ ap (part b j) (part_put 0 HEAD xs ys (omega arith) long))
