-- What is needed of a grid where a script is run stays.
use Rattle.std.proofs.Common.{◌≡◌, ◌<◌, List, length, subst, sym}
use Rattle.std.specs.Prelude.{OnOk}
use Rattle.std.specs.declared.result.Result.{Result}
use Rattle.std.proofs.lemmas.Option.{slice_get_within}
use Rattle.lsl_region.specs.declared.grid.Seat.{Seat}
use Rattle.lsl_region.specs.declared.scene.Scene.{Scene}
use Rattle.lsl_region.specs.Grids.{AreSeated, Contents, outline_of}
use Rattle.lsl_region.specs.Scenes.{IsSet, KeepsSet}
use Rattle.lsl_region.specs.Turning.{IsUnitAt}
use Rattle.lsl_region.proofs.Coming.{unit-kept}
use Rattle.lsl_region.proofs.Results.{OnOk-any, OnOk-map}

module _ {scene : Scene} {old new : Contents} where
  -- with the same outline, where all scripts are of their units still
  pub set-kept : IsSet scene old → outline_of new ≡ outline_of old → AreSeated scene.library.now new.seats
      → IsSet scene new
  set-kept s e seated =
      let unit : IsUnitAt scene.library.now scene.unit.now new.seats scene.place
      = unit-kept scene.library.now scene.unit.now old new scene.place e s.unit in
      record {
        place = slice_get_within new.seats scene.place unit.seat unit.at;
        number = s.number;
        clock = s.clock;
        seated = seated;
        unit = unit;
      }

  -- with the same seats
  pub set-same : IsSet scene old → new.seats ≡ old.seats → IsSet scene new
  set-same s e = record {
    place = subst (λ (seats : List Seat). scene.place < length seats) (sym e) s.place;
    number = s.number;
    clock = s.clock;
    seated = subst (λ (seats : List Seat). AreSeated scene.library.now seats) (sym e) s.seated;
    unit = subst (λ (seats : List Seat). IsUnitAt scene.library.now scene.unit.now seats scene.place) (sym e) s.unit;
  }

  pub keeps-set : {A E : Type 0} (r : Result A E) → IsSet scene old → outline_of new ≡ outline_of old
      → OnOk r (AreSeated scene.library.now new.seats) → KeepsSet scene r old new
  keeps-set r s e seated = record {
    set = OnOk-map r (AreSeated scene.library.now new.seats) (IsSet scene new) (set-kept s e) seated;
    outline = e;
  }

  pub keeps-same : {A E : Type 0} (r : Result A E) → IsSet scene old → outline_of new ≡ outline_of old
      → new.seats ≡ old.seats → KeepsSet scene r old new
  keeps-same r s e seats = record { set = OnOk-any r (IsSet scene new) (set-same s seats); outline = e }
