-- `put` writes the line of an answer to the part of the buffer that is left.
use Rattle.std.proofs.Common.{arith, length-take, length-drop}
use Rattle.transcript.specs.Printed.{printed_count, printed_put}
use Rattle.transcript.proofs.put.Goals as goal

pub print-requires : goal.print-requires
print-requires c = simp (length-take, length-drop) (omega arith)

pub returns : goal.returns
returns c =
    let a = c.args in
    record {
      count = printed_count a.answer _ c.print.ensures.count;
      bytes = printed_put a.answer _ c.print.ensures.count a.out.now a.at _ c.print.ensures.bytes;
    }
