-- Document 02, Point 4: "In a list begun before any job, injecting and withdrawing with nothing between, both accepted, leaves the whole
-- state as before."
use Rattle.std.specs.Prelude.{◌≡◌, true, List, [], ◌∷◌, ◌++◌, ℕ}
use Rattle.std.proofs.Math.Option.{some}
use Rattle.protocol.specs.Frames.{Line, inject, withdraw, frame}
use Rattle.protocol.specs.Step.{step}
use Rattle.protocol.specs.Cases.Computing.{text}
use Rattle.protocol.specs.History.{is_accepted, state_after, history_after}

-- the two lines follow a moment, and both are accepted
pub record Both (moment : List Line) (first second : Line) : Type 0 where
  pub chare : ℕ
  pub value : ℕ
  pub hops : ℕ
  pub injects : frame first ≡ some (inject chare value hops)
  pub withdraws : frame second ≡ some (withdraw chare)
  pub injected : is_accepted (step (state_after moment) first).answer ≡ true
  pub withdrawn : is_accepted (step (state_after (moment ++ (first ∷ []))) second).answer ≡ true

-- the whole state, and what the list has done; for instance of this list
pub record TakingBack : Type 0 where
  pub same_state : (moment : List Line) (first second : Line) → Both moment first second → state_after (moment ++ (first ∷ second ∷ [])) ≡ state_after moment
  pub same_history : (moment : List Line) (first second : Line) → Both moment first second → history_after (moment ++ (first ∷ second ∷ [])) ≡ history_after moment
  pub instance : Both (text "0102020201010200020000" ∷ []) (text "1001000301") (text "1701")
