-- What a send leaves of a memory and of the wire, from what the functions on their rows answer.
use Rattle.std.specs.Prelude.{◌≡◌, List, ℕ, ◌+◌, ◌-◌, ◌%◌, ◌<◌, length, set}
use Rattle.std.proofs.Common.{◌∙◌, arith, mod-eq_of_lt, length-set}
use Rattle.arrays.specs.Front.{push}
use Rattle.protocol.specs.{declared.Message.Message, declared.Content.Content, Setters.with_table, Sending.{about, local_entry}, Tickets.filled}
use Rattle.words.specs.Part.{part, put, part_length}
use Rattle.packets.specs.Fits.{fits_same}
use Rattle.memory.specs.{Places.{SN, TABLE, ROW, LOG, MEMORY}, Numbers.sn_set, View.{memory_view, log_changed, table_changed}}
use Rattle.sends.specs.{declared.ticket.Ticket.TheVariants.{Found, New}, Ticket.{table_by, to_table, log_by, to_log}}
use Rattle.tickets.specs.Table as tickets
use Rattle.logs.specs.Log as logs
use Rattle.logs.specs.Fits as log-fits
use Rattle.packets.specs.Words as packets

-- ---- the receiver's memory
module _ (ws ys : List ℕ) (size : length ws ≡ MEMORY) (long : length ys ≡ ROW) (m : Message) (t : ℕ) (h-in : m.hops < 8) where
  pub ticket_found : tickets.entries ys ≡ filled m.sender m.sn m.value (m.hops % 8) (tickets.entries (part TABLE ROW ws))
      → memory_view (put TABLE ROW ws ys) ≡ with_table (memory_view ws) (to_table (memory_view ws).table m (Found t))
  unfolding table_by
  ticket_found e = table_changed ws ys size long (filled m.sender m.sn m.value m.hops) (e ∙ rw (mod-eq_of_lt h-in))

  pub ticket_new : m.sender < 13 → tickets.entries ys ≡ push (length (part TABLE ROW ws) - 1) (tickets.entries (part TABLE ROW ws)) (tickets.fitted (local_entry m t))
      → memory_view (put TABLE ROW ws ys) ≡ with_table (memory_view ws) (to_table (memory_view ws).table m (New t))
  unfolding table_by tickets.fitted local_entry
  ticket_new a_in e =
      let z : length (part TABLE ROW ws) - 1 ≡ 16 = omega (arith, part_length TABLE ROW ws (omega arith)) in
      let s : m.sender < 16 = omega arith in
      table_changed ws ys size long (λ l. push 16 l (local_entry m t)) (e ∙ rw (z, mod-eq_of_lt s, mod-eq_of_lt h-in))

-- ---- the sender's memory: the SN is set, then the message is logged
module _ (ws ys : List ℕ) (size : length ws ≡ MEMORY) (long : length ys ≡ ROW) (m : Message) (t : ℕ) (fits : log-fits.Fits m) where
  abbrev counted : List ℕ
  counted = set ws (SN + m.receiver) m.sn

  pub logged_put : logs.entries ys ≡ push (length (part LOG ROW counted) - 1) (logs.entries (part LOG ROW counted)) (logs.fitted (record { message = m; tn = t }))
      → memory_view (put LOG ROW counted ys) ≡ to_log (memory_view ws) m t
  unfolding log_by
  logged_put e =
      let size2 : length counted ≡ MEMORY = simp length-set size in
      let z : length (part LOG ROW counted) - 1 ≡ 16 = omega (arith, part_length LOG ROW counted (omega arith)) in
      log_changed counted ys size2 long (λ l. push 16 l (record { message = m; tn = t })) (e ∙ rw (z, log-fits.fitted_same (record { message = m; tn = t }) fits))
      ∙ rw (sn_set ws size m.sn m.receiver fits.receiver fits.sn)

-- ---- the wire: a packet about a message of two chares, with a content that a word can hold
pub about_fits : (m : Message) (c : Content) → m.sender < 13 → m.receiver < 13 → m.sn < 65536 → packets.fit_content c ≡ c → packets.fitted (about m c) ≡ about m c
unfolding about
about_fits m c a_in b-in n-in e = fits_same (about m c) (record { sender = omega arith; receiver = omega arith; sn = n-in; content = e })
