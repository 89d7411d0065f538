-- `outputs::answer::hand_over` meets its contract: where there is room, a part of the output is as long as the bytes. Assumes nothing.
use Rattle.std.proofs.Common.{◌≤◌, length, rules}
use Rattle.outputs.specs.Answer.{room_fits}
use Rattle.outputs.proofs.answer.hand_over.Goals as goal

pub slice_bounds-copy_from_slice-end : goal.slice_bounds-copy_from_slice-end
slice_bounds-copy_from_slice-end c = room_fits _ _ c.in_ok-check_room.ensures

pub slice_bounds-copy_from_slice-end-2 : goal.slice_bounds-copy_from_slice-end-2
slice_bounds-copy_from_slice-end-2 c =
    let fits : length c.args.bytes.now ≤ length c.args.out.now = room_fits _ _ c.in_ok-check_room.ensures in search rules

pub copy_from_slice-requires : goal.copy_from_slice-requires
copy_from_slice-requires c =
    let fits : length c.args.bytes.now ≤ length c.args.out.now = room_fits _ _ c.in_ok-check_room.ensures in search rules
