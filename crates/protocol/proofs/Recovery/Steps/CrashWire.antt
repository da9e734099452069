-- A crash with cover, the wire: what is left of it still fits.
use Rattle.std.specs.Prelude.{◌≡◌, true, false, ◌&&◌, ◌||◌, ◌≢◌, ℕ, ◌≤◌}
use Rattle.std.proofs.Math.Path.{refl}
use Rattle.std.proofs.Common.{sym, ap, ◌∙◌, subst}
use Rattle.std.proofs.Math.Bool.{not}
use Rattle.std.proofs.Math.Logic.{inl, inr}
use Rattle.std.proofs.Math.Dec.{eqb}
use Rattle.std.proofs.lemmas.Bool.{eqb-false}
use Rattle.lists.specs.Tests.{either, or_none, and_i, true_not_false}
use Rattle.lists.specs.Lists.{◌∈◌, All, keep, keep_mem}
use Rattle.protocol.specs.declared.Packet.{Packet}
use Rattle.protocol.specs.declared.Content.{Content}
use Rattle.protocol.specs.declared.Content.TheVariants.{Ask as ASK, GrantOld as GRANT-old, GrantReceived as GRANT-received, GrantNew as GRANT-new, Data as DATA, Note as NOTE, Ack as ACK}
use Rattle.protocol.specs.declared.Status.TheVariants.{Down}
use Rattle.protocol.specs.Parts.{Job, State, on}
use Rattle.protocol.specs.Packets.{kind, destination, goes_to}
use Rattle.protocol.specs.Crash.{survives}
use Rattle.protocol.specs.CrashFree.{Run}
use Rattle.protocol.proofs.Recovery.Invariant.World.{World, HasTicket}
use Rattle.protocol.proofs.Recovery.Invariant.Clauses.{Fits, PacketOk}
use Rattle.protocol.proofs.Recovery.Invariant.Linked.{world}
use Rattle.protocol.proofs.Recovery.Invariant.Homes.{elsewhere, local_home}
use Rattle.protocol.proofs.Recovery.Steps.CrashTables.{Covered}
use Rattle.protocol.proofs.Recovery.Steps.CrashParts.{status_after, memory_after, held_after, copy_after, notes_after, memory_elsewhere, still_held, kept_still, down_here, up_elsewhere, tick_elsewhere}

-- ---- a packet that is left goes to another machine; a GRANT or NOTE was given on another
module _ (j : Job) (q : ℕ) (y : Packet) (left : survives j q y ≡ true) where
  neither : (eqb (goes_to j y) q ≡ false) × ((on j q y.receiver && (eqb (kind y.content) 2 || eqb (kind y.content) 4)) ≡ false)
  unfolding survives
  neither = or_none _ _ (either (eqb (goes_to j y) q || (on j q y.receiver && (eqb (kind y.content) 2 || eqb (kind y.content) 4)))
      (λ e. true_not_false left (ap not e))
      (λ e. e))

  pub goes_elsewhere : goes_to j y ≢ q
  goes_elsewhere = eqb-false _ _ neither.0

  pub given_elsewhere : (eqb (kind y.content) 2 || eqb (kind y.content) 4) ≡ true → j.home y.receiver ≢ q
  given_elsewhere k = elsewhere j q y.receiver (either (on j q y.receiver) (λ e. true_not_false (and_i _ _ e k) neither.1) (λ e. e))

-- the world after the crash of q
abbrev pub world_after : State → Run → (ℕ → ℕ) → ℕ → World
world_after s x stable q = record {
  job = s.job;
  run = x;
  stable = stable;
  status = status_after s q;
  target = s.target;
  mem = memory_after s q;
  held = held_after s q;
  copy = copy_after s q;
  notes = notes_after s q;
  wire = keep (survives s.job q) s.wire;
}

module _ {s : State} {x : Run} {stable : ℕ → ℕ} {q : ℕ} (b : Covered s x stable q) where
  still_up : {r : ℕ} → s.job.home r ≢ q → status_after s q (s.job.home r) ≢ Down
  still_up d e = d (down_here b _ e)

  -- a local packet of chares elsewhere: the sender's counts are as they were
  still_sent : {a r n : ℕ} → s.job.home a ≢ q → n ≤ (s.live a).sn r → n ≤ (memory_after s q a).sn r
  still_sent {a} {r} {n} d k = subst (λ m. n ≤ m.sn r) (sym (memory_elsewhere s q a d)) k

  fits_after : (a r n : ℕ) (c : Content) → survives s.job q (record { sender = a; receiver = r; sn = n; content = c }) ≡ true
      → Fits (world s x stable s.live) a r n c → Fits (world_after s x stable q) a r n c
  unfolding kind goes_to destination
  fits_after a r n ASK left f = f
  fits_after a r n GRANT-old left f = (f.0, f.1, still_up (given_elsewhere s.job q _ left refl))
  fits_after a r n (GRANT-received t) left f = let d = given_elsewhere s.job q _ left refl in (f.0, tick_elsewhere b d f.1, still_up d)
  fits_after a r n (GRANT-new t) left f = let d = given_elsewhere s.job q _ left refl in (f.0, tick_elsewhere b d f.1, still_up d)
  fits_after a r n (DATA v h) left f = (
    f.0,
    f.1,
    λ u. elim (f.2 (b.normal _)) [
      | inl k ↦ inl (subst (λ m. HasTicket m.log r n) (sym (memory_elsewhere s q a (up_elsewhere b _ u))) k)
      | inr k ↦ inr k
    ],
  )
  fits_after a r n (NOTE t) left f =
      let d = given_elsewhere s.job q _ left refl in
      (f.0, tick_elsewhere b d f.1, still_sent (λ h. d (sym (local_home s.job a r f.0) ∙ h)) f.2, still_up d)
  fits_after a r n ACK left f =
      let d : s.job.home r ≢ q = goes_elsewhere s.job q _ left in (
        f.0,
        still_sent (λ h. d (sym (local_home s.job a r f.0) ∙ h)) f.1,
        λ held e i o p z.
            kept_still s q r a n e.tn held (f.2 (still_held s q _ held) e (subst (λ m. e ∈ m.table) (memory_elsewhere s q r d) i) o p z),
      )

  pub wire_after : All (PacketOk (world_after s x stable q)) (keep (survives s.job q) s.wire)
  wire_after y i =
      let (k, left) = keep_mem (survives s.job q) s.wire i in
      let p = b.inv.wire y k in
      record { key = p.key; fits = fits_after y.sender y.receiver y.sn y.content left p.fits }
