-- A packet that fits one world fits a later one: what a step has to show for that, said once for all contents.
use Rattle.std.specs.Prelude.{◌≡◌, true, false, ◌⊎◌, ◌≢◌, List, ℕ, ◌≤◌}
use Rattle.std.proofs.Common.{sym, subst, ◌∙◌, inl, inr, le_trans, arith}
use Rattle.lists.specs.Lists.{◌∈◌, All}
use Rattle.protocol.specs.declared.Message.{Message}
use Rattle.protocol.specs.declared.Logged.{Logged}
use Rattle.protocol.specs.declared.Entry.{Entry}
use Rattle.protocol.specs.declared.Note.{Note}
use Rattle.protocol.specs.declared.Packet.{Packet}
use Rattle.protocol.specs.declared.Content.{Content}
use Rattle.protocol.specs.declared.Content.TheVariants.{Ask as ASK, GrantOld as GRANT-old, GrantReceived as GRANT-received, GrantNew as GRANT-new, Data as DATA, Note as NOTE, Ack as ACK}
use Rattle.protocol.specs.declared.Status.TheVariants.{Up, Down}
use Rattle.protocol.specs.Parts.{Job}
use Rattle.protocol.specs.Sending.{is_local}
use Rattle.protocol.proofs.Recovery.Run.Facts.{Sent}
use Rattle.protocol.proofs.Recovery.Invariant.World.{World, Tick, Stable, SentKey, HasTicket, Kept}
use Rattle.protocol.proofs.Recovery.Invariant.Clauses.{Log, Notes, Acks, Fits, PacketOk}

-- what DATA from s to r with SN n says of the sender's log; what an ACK says of the receiver's entries
abbrev pub Backed : World → ℕ → ℕ → ℕ → Type 0
Backed w s r n = w.status (w.job.home s) ≡ Up → HasTicket (w.mem s).log r n ⊎ Stable w.run w.stable r s n

abbrev pub Acked : World → ℕ → ℕ → ℕ → Type 0
Acked w s r n = w.held (w.job.home r) ≡ true → Acks w s r n (w.mem r).table

-- the world v with the job j
abbrev pub put_job : World → Job → World
put_job v j = record { job = j; run = v.run; stable = v.stable; status = v.status; target = v.target; mem = v.mem; held = v.held; copy = v.copy; notes = v.notes; wire = v.wire }

-- v is a later world than w, as far as a packet can tell
pub record Later (w v : World) : Type 0 where
  pub job : v.job ≡ w.job
  pub sent : (m : Message) → Sent w.run m → Sent v.run m
  pub stable : (r s n : ℕ) → Stable w.run w.stable r s n → Stable v.run v.stable r s n
  pub tick : (r s n t : ℕ) → Tick w.run w.mem r s n t → Tick v.run v.mem r s n t
  pub up : (p : ℕ) → w.status p ≢ Down → v.status p ≢ Down
  pub counts : (s r : ℕ) → (w.mem s).sn r ≤ (v.mem s).sn r
  pub backed : (s r n : ℕ) → SentKey w.run s r n → is_local w.job s r ≡ false → Backed w s r n → Backed (put_job v w.job) s r n
  pub acked : (s r n : ℕ) → SentKey w.run s r n → is_local w.job s r ≡ true → n ≤ (w.mem s).sn r → Acked w s r n → Acked (put_job v w.job) s r n

pub key_later : {w v : World} → Later w v → {s r n : ℕ} → SentKey w.run s r n → SentKey v.run s r n
key_later h k = record { message = k.message; sent = h.sent k.message k.sent; of_sender = k.of_sender; of_receiver = k.of_receiver; of_sn = k.of_sn }

module _ {w v : World} (h : Later w v) where
  fits_later : (s r n : ℕ) (c : Content) → SentKey w.run s r n → Fits w s r n c → Fits (put_job v w.job) s r n c
  fits_later s r n ASK k f = f
  fits_later s r n GRANT-old k f = (f.0, h.stable r s n f.1, h.up _ f.2)
  fits_later s r n (GRANT-received t) k f = (f.0, h.tick r s n t f.1, h.up _ f.2)
  fits_later s r n (GRANT-new t) k f = (f.0, h.tick r s n t f.1, h.up _ f.2)
  fits_later s r n (DATA a b) k f = (f.0, h.sent _ f.1, h.backed s r n k f.0 f.2)
  fits_later s r n (NOTE t) k f = (f.0, h.tick r s n t f.1, le_trans f.2 (h.counts s r), h.up _ f.3)
  fits_later s r n ACK k f = (f.0, le_trans f.1 (h.counts s r), h.acked s r n k f.0 f.1 f.2)

  pub packet_later : (y : Packet) → PacketOk w y → PacketOk v y
  packet_later y p = record {
    key = key_later h p.key;
    fits = subst (λ j. Fits (put_job v j) y.sender y.receiver y.sn y.content) (sym h.job)
        (fits_later y.sender y.receiver y.sn y.content p.key p.fits);
  }

  pub wire_later : (l : List Packet) → All (PacketOk w) l → All (PacketOk v) l
  wire_later l p y i = packet_later y (p y i)

  -- ---- logs and notes, as far as they speak of the run and of tickets
  pub log_later : (a : ℕ) (l : List Logged) (f : ℕ → ℕ) → Log w.job w.run w.stable w.mem a l f → Log w.job v.run v.stable v.mem a l f
  log_later a l f g = record {
    sent = λ y i. h.sent y.message (g.sent y i);
    owner = g.owner;
    counted = g.counted;
    keys = g.keys;
    tick = λ y i q. h.tick _ _ _ _ (g.tick y i q);
    local = g.local;
    whole = λ r n a b. elim (g.whole r n a b) [ inl i ↦ inl i | inr i ↦ inr (h.stable _ _ _ i) ];
  }

  pub notes_later : (notes : ℕ → List Note) → Notes w.job w.run w.mem notes → Notes w.job v.run v.mem notes
  notes_later notes g p n i = let k = g p n i in (k.0, k.1, k.2, h.tick _ _ _ _ k.3)

-- ---- the usual ways to the last two fields
-- no machine becomes normal, and what is ticketed in a log stays so or is stable
pub still_backed : (w v : World)
    → ((p : ℕ) → v.status p ≡ Up → w.status p ≡ Up)
    → ((s r n : ℕ) → HasTicket (w.mem s).log r n → HasTicket (v.mem s).log r n ⊎ Stable v.run v.stable r s n)
    → ((r s n : ℕ) → Stable w.run w.stable r s n → Stable v.run v.stable r s n)
    → (s r n : ℕ) → Backed w s r n → Backed (put_job v w.job) s r n
still_backed w v normal ticketed stable s r n b u = elim (b (normal _ u)) [ inl t ↦ ticketed s r n t | inr t ↦ inr (stable r s n t) ]

-- no copy is new, and what is kept stays so; no stable height falls; every entry was there, under its name and TN
pub still_acked : (w v : World)
    → ((p : ℕ) → v.held p ≡ true → w.held p ≡ true)
    → ((r : ℕ) → w.stable r ≤ v.stable r)
    → ((r s n t : ℕ) → v.held (w.job.home r) ≡ true → Kept w.job w.copy w.notes r s n t → Kept w.job v.copy v.notes r s n t)
    → ((r : ℕ) (e : Entry) → e ∈ (v.mem r).table → (f : Entry) × (f ∈ (w.mem r).table) × (f.sender ≡ e.sender) × (f.sn ≡ e.sn) × (f.tn ≡ e.tn))
    → (s r n : ℕ) → Acked w s r n → Acked (put_job v w.job) s r n
still_acked w v held grows kept old s r n a u e i o p q =
    let (f, j, x, y, z) = old r e i in
    let g = grows r in
    kept r s n e.tn u (subst (λ t. Kept w.job w.copy w.notes r s n t) z (a (held _ u) f j (omega arith) (x ∙ p) (y ∙ q)))
