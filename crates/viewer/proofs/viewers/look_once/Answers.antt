-- `viewer::viewers::look_once` meets its contract: the viewer that it looks through holds what it was lent. Assumes nothing.
use Rattle.coordinates.specs.Looking.{look_made}
use Rattle.viewer.proofs.viewers.look_once.Goals as goal

pub returns : goal.returns
returns c =
    let (letters, marks, made) = c.viewer_of.ensures in
    look_made c.args.rank c.args.letters.now c.args.marks.now c.args.place (rw (letters, marks) at c.look.ensures) made
