use Rattle.lsl_top.proofs.Trips.{copies-fair}
use Rattle.lsl_top.proofs.laws.copies_keep.Goals as goal

pub returns : goal.returns
returns c = λ words old new status ends.
    let (trips, went, silent, keeps) = ends.kept in
    (trips, went, keeps (copies-fair words old.trips new.trips trips went))
