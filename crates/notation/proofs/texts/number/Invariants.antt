-- `notation::texts::number` meets its contract, by the laws of specs/Digits. The invariant: the digits before a place are read. Assumes nothing.
use Rattle.notation.specs.Digits.{Reading}
use Rattle.notation.proofs.texts.number.Given as goal

abbrev pub invariant-loop-byte : goal.invariant-loop-byte
invariant-loop-byte l = Reading l.text l.value l.byte-index
