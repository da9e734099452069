-- One more note keeps the invariant.
use Rattle.std.specs.Prelude.{◌≡◌, refl, true, List, [], ◌∷◌, ◌++◌, ℕ}
use Rattle.std.proofs.Common.{inl, inr, le_refl}
use mathlib.Core.List.Memᴰ
use Rattle.lists.specs.Map.{upd, upd_ind}
use Rattle.lists.specs.Lists.{All, all_snoc}
use Rattle.protocol.specs.declared.Note.{Note}
use Rattle.protocol.specs.Parts.{Job, Memory}
use Rattle.protocol.specs.Sending.{is_local}
use Rattle.protocol.specs.CrashFree.{Run}
use Rattle.protocol.proofs.Recovery.Invariant.World.{World, put_notes, Pending, Tick, NotedAs, Kept}
use Rattle.protocol.proofs.Recovery.Invariant.Clauses.{Chare, Noted, Notes, InvP}
use Rattle.protocol.proofs.Recovery.Invariant.Later.{Later, wire_later}

-- what the invariant says of a note for machine q
abbrev pub NoteOk : Job → Run → (ℕ → Memory) → ℕ → Note → Type 0
NoteOk j x mem q n =
    (is_local j n.sender n.receiver ≡ true) × Chare j n.receiver × (j.home n.receiver ≡ q) × Tick x mem n.receiver n.sender n.sn n.tn

-- what a note list has, it has with one more note
pub noted_more : (m : ℕ) (y : Note) (notes : ℕ → List Note) {s r n t : ℕ} (q : ℕ) → NotedAs (notes q) s r n t → NotedAs (upd m (notes m ++ (y ∷ [])) notes q) s r n t
noted_more m y notes {s} {r} {n} {t} =
    upd_ind (λ q l. NotedAs (notes q) s r n t → NotedAs l s r n t) m (notes m ++ (y ∷ [])) notes
    (λ h. record { note = h.note; member = Memᴰ.append_left (y ∷ []) h.member; of_sender = h.of_sender; of_receiver = h.of_receiver; of_sn = h.of_sn; of_tn = h.of_tn })
    (λ q d h. h)

pub kept_more : (j : Job) (copy : ℕ → Memory) (notes : ℕ → List Note) (m : ℕ) (y : Note) (r s n t : ℕ) → Kept j copy notes r s n t → Kept j copy (upd m (notes m ++ (y ∷ [])) notes) r s n t
kept_more j copy notes m y r s n t (inl h) = inl (noted_more m y notes (j.home r) h)
kept_more j copy notes m y r s n t (inr h) = inr h

module _ {p : Pending} {w : World} (inv : InvP p w) (m : ℕ) (y : Note) (good : NoteOk w.job w.run w.mem m y) where
  abbrev longer : ℕ → List Note
  longer = upd m (w.notes m ++ (y ∷ [])) w.notes

  kept : (r s n t : ℕ) → Kept w.job w.copy w.notes r s n t → Kept w.job w.copy longer r s n t
  kept = kept_more w.job w.copy w.notes m y

  noted : Noted w.job w.run w.stable w.mem w.held w.copy longer
  noted = record { unnoted = inv.noted.unnoted; noted = λ c k u e i o a b. kept c e.sender e.sn e.tn (inv.noted.noted c k u e i o a b) }

  notes : Notes w.job w.run w.mem longer
  notes = upd_ind (λ q l. All (NoteOk w.job w.run w.mem q) l) m (w.notes m ++ (y ∷ [])) w.notes (all_snoc (w.notes m) (inv.notes m) good) (λ q d. inv.notes q)

  later : Later w (put_notes w longer)
  later = record {
    job = refl;
    sent = λ m k. k;
    stable = λ r s n k. k;
    tick = λ r s n t k. k;
    up = λ p k. k;
    counts = λ s r. le_refl _;
    backed = λ s r n k d b. b;
    acked = λ s r n k d b a u e i o g h. kept r s n e.tn (a u e i o g h);
  }

  pub note_add : InvP p (put_notes w (upd m (w.notes m ++ (y ∷ [])) w.notes))
  note_add = record {
    job = inv.job;
    domain = inv.domain;
    machines = inv.machines;
    images = inv.images;
    heights = inv.heights;
    tables = inv.tables;
    ordered = inv.ordered;
    remembered = inv.remembered;
    noted = noted;
    logs = inv.logs;
    copies = inv.copies;
    notes = notes;
    wire = wire_later later w.wire inv.wire;
  }
