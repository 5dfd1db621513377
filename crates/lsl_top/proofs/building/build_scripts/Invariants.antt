use Rattle.std.proofs.Common.{◌≡◌, List, length, map, take}
use Rattle.lsl_build.specs.Codes.{AreCodesOf}
use Rattle.lsl_tree.specs.Program.{Program}
use Rattle.lsl_world.specs.Codes.{AreRunBy}
use Rattle.lsl_top.specs.Scripts.{AreAccepted}
use Rattle.lsl_top.proofs.building.build_scripts.Given as goal

abbrev pub invariant-loop-place : goal.invariant-loop-place
invariant-loop-place l =
    record {
      built : (programs : List Program) × AreAccepted (take l.place (map (λ t. t.items) l.texts)) programs
          × AreRunBy programs l.units;
      codes : AreCodesOf (take l.place (map (λ t. t.items) l.texts)) l.units;
      len : length l.units ≡ l.place;
    }
