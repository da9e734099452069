-- An input that comes in pieces of any sizes: the bytes written are the transcript of the whole.
use Rattle.std.specs.Prelude.{List, [], ◌∷◌, ◌++◌, ◌≡◌, refl, ℕ}
use Rattle.std.proofs.Common.{append_assoc, ap, ◌∙◌}
use Rattle.lists.specs.Lists.{gather}
use Rattle.transcript.specs.{Reading.{Reading, beginning, read_all, output, last_output}, Pieces.{read_append, output_append, reads_transcript}}
use Rattle.protocol.specs.Step.{answers}

unfoldable pub joined : List (List ℕ) → List ℕ
joined ps = gather (λ p. p) ps

-- each piece gets the reader that the last one left
unfoldable pub read_pieces : Reading → List (List ℕ) → Reading
read_pieces r [] = r
read_pieces r (p ∷ ps) = read_pieces (read_all r p) ps

unfoldable pub output_pieces : Reading → List (List ℕ) → List ℕ
output_pieces r [] = []
output_pieces r (p ∷ ps) = output r p ++ output_pieces (read_all r p) ps

same_pieces : (r : Reading) (ps : List (List ℕ)) → output_pieces r ps ++ last_output (read_pieces r ps) ≡ output r (joined ps) ++ last_output (read_all r (joined ps))
unfolding read_pieces output_pieces joined gather read_all output
same_pieces r [] = refl
same_pieces r (p ∷ ps) = rw (read_append, output_append) (simp append_assoc (ap (output r p ++◌) (same_pieces (read_all r p) ps)))

pub pieces_transcript : (ps : List (List ℕ)) → output_pieces beginning ps ++ last_output (read_pieces beginning ps) ≡ answers (joined ps)
pieces_transcript ps = same_pieces beginning ps ∙ reads_transcript (joined ps)
