-- `lines::letter` meets its contract, rule by rule.
use Rattle.std.proofs.Common.{rules}
use Rattle.protocol.specs.Lines.{letter}
use Rattle.lines.proofs.letter.Goals as goal

pub returns-in-AskFound : goal.returns-in-AskFound
returns-in-AskFound c = unfold letter in search rules

pub returns-in-AskWorked : goal.returns-in-AskWorked
returns-in-AskWorked c = unfold letter in search rules

pub returns-in-AskNew : goal.returns-in-AskNew
returns-in-AskNew c = unfold letter in search rules

pub returns-in-GrantDropped : goal.returns-in-GrantDropped
returns-in-GrantDropped c = unfold letter in search rules

pub returns-in-GrantOld : goal.returns-in-GrantOld
returns-in-GrantOld c = unfold letter in search rules

pub returns-in-GrantReceived : goal.returns-in-GrantReceived
returns-in-GrantReceived c = unfold letter in search rules

pub returns-in-GrantNew : goal.returns-in-GrantNew
returns-in-GrantNew c = unfold letter in search rules

pub returns-in-DataFilled : goal.returns-in-DataFilled
returns-in-DataFilled c = unfold letter in search rules

pub returns-in-DataDropped : goal.returns-in-DataDropped
returns-in-DataDropped c = unfold letter in search rules

pub returns-in-Other : goal.returns-in-Other
returns-in-Other c = unfold letter in search rules
