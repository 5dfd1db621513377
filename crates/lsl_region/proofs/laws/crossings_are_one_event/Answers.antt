use Rattle.std.proofs.Common.{Bool, if◌then◌else◌, refl, ap}
use Rattle.std.proofs.lemmas.List.{get_or-set_other, get_or-set_same}
use Rattle.lsl_post.specs.Told.{quiet}
use Rattle.lsl_region.specs.Crossings.{region_changed}
use Rattle.lsl_region.specs.Journeys.{arrive}
use Rattle.lsl_region.specs.Worlds.{no_object, object_at, with_object}
use Rattle.lsl_region.proofs.laws.crossings_are_one_event.Goals as goal

pub returns-clause-elsewhere : goal.returns-clause-elsewhere
returns-clause-elsewhere c = λ r place region w within away.
    let object = record (object_at w place) { region = region } in (
      with_object w place object,
      region_changed,
      record {
        moved = ap (λ o. o.region) (get_or-set_same w.objects place object no_object within);
        others = λ other differs. get_or-set_other w.objects place other object no_object differs;
        event = record { changed = refl; flag = refl };
        told = ap (λ (b : Bool). if b then quiet w else arrive r place region w) away;
      },
    )

pub returns-clause-here : goal.returns-clause-here
returns-clause-here c = λ r place region w there.
    ap (λ (b : Bool). if b then quiet w else arrive r place region w) there
