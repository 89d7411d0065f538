-- `departures::departure::remove_oldest` meets its contract, by the laws of specs/Departure. Assumes nothing.
use Rattle.std.specs.Prelude.{◌≡◌, Some, take}
use Rattle.std.proofs.Common.{rules}
use Rattle.closings.specs.Oldest.{oldest_place}
use Rattle.departures.specs.Departure.{passed_counted, depart_passed}
use Rattle.departures.proofs.departure.remove_oldest.Goals as goal

pub drop_count-requires : goal.drop_count-requires
drop_count-requires c =
    let there : oldest_place (take c.args.used c.args.entries.now) ≡ Some c.unwrap-at.result = search rules in
    passed_counted _ _ _ _ _ _ c.check_departure.ensures c.in_ok-check_departure.was there

pub returns : goal.returns
returns c =
    let there : oldest_place (take c.args.used c.args.entries.now) ≡ Some c.unwrap-at.result = search rules in
    depart_passed _ _ _ _ _ _ c.check_departure.ensures c.in_ok-check_departure.was there c.close_elements.ensures c.close_marks.ensures c.close_entries.ensures c.drop_count.ensures
