use Rattle.std.proofs.Common.{◌≡◌, sym, arith}
use Rattle.std.proofs.lemmas.List.{append-nil}
use Rattle.lsl_made.proofs.WorldLines.{objects_text-none, objects_text-next, objects_text-all}
use Rattle.lsl_made.proofs.world.push_objects.Goals as goal

pub objects-init : goal.objects-init
objects-init c = rw objects_text-none (sym (append-nil _))

pub objects-preserved : goal.objects-preserved
objects-preserved c =
    objects_text-next c.objects.object _ _ _ c.objects.invariant c.in_ok-push_object.ensures

pub returns : goal.returns
returns c = let last : c.objects.object ≡ 8 = omega arith in let e = objects_text-all in cc
