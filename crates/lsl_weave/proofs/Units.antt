-- The woven code of a well-formed unit saves, restores and runs.
use Rattle.std.proofs.Common.{List, refl}
use Rattle.lsl_code.specs.Frames.{frames_of}
use Rattle.lsl_code.specs.Machine.{MachineCall, Machine}
use Rattle.lsl_code.specs.ModeRuns.{Beside}
use Rattle.lsl_code.proofs.Calling.{frames_have_calls}
use Rattle.lsl_code.proofs.Stood.{ticks_have_frames}
use Rattle.lsl_code.proofs.UnitTold.{fits_tells}
use Rattle.lsl_weave.specs.UnitLaws.{UnitsSave, UnitsRestore, UnitsMove, UnitsRunAlike, UnitsComeToSame}
use Rattle.lsl_weave.proofs.Alike.{whole_same}
use Rattle.lsl_weave.proofs.Besides.{machine_saved, machine_restored}
use Rattle.lsl_weave.proofs.Forwards.{units_go_forward}
use Rattle.lsl_weave.proofs.OnePlaced.{one_placed, chain_behind}
use Rattle.lsl_weave.proofs.Running.{runs_alike}

pub units_save : UnitsSave
units_save globals states bodies fits h m kinded chain tick =
    machine_saved bodies h m (frames_of bodies m.calls)
    (ticks_have_frames globals states bodies (fits_tells globals states bodies fits).0 h m kinded chain tick)

pub units_move : UnitsMove
units_move globals states bodies fits h m kinded chain tick =
    machine_restored bodies h m (frames_of bodies m.calls)
    (one_placed globals states bodies (fits_tells globals states bodies fits).0)
    (ticks_have_frames globals states bodies (fits_tells globals states bodies fits).0 h m kinded chain tick)

abbrev pub machine_with : List MachineCall → Beside → Machine
machine_with calls x = record { kept = x.kept; calls = calls; answers = x.answers }

pub units_restore : UnitsRestore
units_restore globals states bodies fits h frames x fit =
    let c = frames_have_calls globals states bodies (fits_tells globals states bodies fits).0 h frames fit in
    let m = machine_with c.0 x in (
      m,
      refl,
      c.1,
      c.2,
      c.3,
      c.4,
      machine_restored bodies h m frames
          (one_placed globals states bodies (fits_tells globals states bodies fits).0) c.1,
    )

pub units_come_to_same : UnitsComeToSame
units_come_to_same globals states bodies fits f kept args ticks answers =
    whole_same bodies (fits_tells globals states bodies fits).0.forward
    (units_go_forward globals states bodies fits) f kept args ticks answers

pub units_run_alike : UnitsRunAlike
units_run_alike globals states bodies fits h ticks m chain =
    runs_alike bodies (fits_tells globals states bodies fits).0.forward ticks m
    (chain_behind bodies h m.calls chain)
