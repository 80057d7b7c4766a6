use Rattle.std.proofs.Common.{take}
use Rattle.std.specs.Option.{IfSome}
use Rattle.std.specs.Fmt.{HasWritten, IsPlainFormatter}
use Rattle.shapes.specs.Prints.{behind_spaces}
use Rattle.shapes.proofs.shown.SpacedDisplay.fmt.Given as goal

abbrev pub invariant-loop-item : goal.invariant-loop-item
invariant-loop-item g l =
    IsPlainFormatter l.initial.f → IfSome (behind_spaces g.T.Display.output (take l.item-index l.rest)) (λ bs. HasWritten g.W.Write.write_str_gives l.initial.f bs l.f)
