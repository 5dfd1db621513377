use Rattle.std.proofs.Common.{length}
use Rattle.lsl_image.specs.Object.{object}
use Rattle.lsl_image.proofs.AnswerLemmas.{object-ends, outer-refused, read-image, read-refused, refused-every, refused-first, refused-found, refused-only}
use Rattle.lsl_image.proofs.ImageLemmas.{image-no_fault, image-one}
use Rattle.lsl_image.proofs.images.read_object.Goals as goal

pub returns-in_err-fields : goal.returns-in_err-fields
returns-in_err-fields c =
    let refused = outer-refused (object c.args.region.now c.args.shape.now c.args.library.now) c.args.bytes.now _
    c.in_err-fields.ensures in
    record {
      found = refused-found (object c.args.region.now c.args.shape.now c.args.library.now) c.args.bytes.now
          c.in_err-fields.field-0.0 _ c.from_residual.ensures.1;
      every = λ parts h. refused-every (object c.args.region.now c.args.shape.now c.args.library.now) c.args.bytes.now
          c.in_err-fields.field-0.0 _ c.from_residual.ensures.1 refused parts h;
      first = refused-first (object c.args.region.now c.args.shape.now c.args.library.now) c.args.bytes.now
          c.in_err-fields.field-0.0 _ c.from_residual.ensures.1 refused;
      only = λ fault h. refused-only (object c.args.region.now c.args.shape.now c.args.library.now) c.args.bytes.now
          c.in_err-fields.field-0.0 _ c.from_residual.ensures.1 refused fault h;
    }

pub returns-in_err-parts : goal.returns-in_err-parts
returns-in_err-parts c =
    let refused = read-refused (object c.args.region.now c.args.shape.now c.args.library.now) c.args.bytes.now
    c.in_ok-fields.fields.now c.in_ok-fields.ensures.0
    c.in_ok-fields.ensures.1 c.in_err-parts.field-0.0 c.in_err-parts.ensures in
    record {
      found = refused-found (object c.args.region.now c.args.shape.now c.args.library.now) c.args.bytes.now
          c.in_err-parts.field-0.0 _ c.from_residual-in_err-parts.ensures.1;
      every = λ parts h. refused-every (object c.args.region.now c.args.shape.now c.args.library.now) c.args.bytes.now
          c.in_err-parts.field-0.0 _ c.from_residual-in_err-parts.ensures.1 refused parts h;
      first = refused-first (object c.args.region.now c.args.shape.now c.args.library.now) c.args.bytes.now
          c.in_err-parts.field-0.0 _ c.from_residual-in_err-parts.ensures.1 refused;
      only = λ fault h. refused-only (object c.args.region.now c.args.shape.now c.args.library.now) c.args.bytes.now
          c.in_err-parts.field-0.0 _ c.from_residual-in_err-parts.ensures.1 refused fault h;
    }

pub returns : goal.returns
returns c =
    let image = read-image (object c.args.region.now c.args.shape.now c.args.library.now) c.args.bytes.now
    c.in_ok-fields.fields.now c.in_ok-fields.ensures.0 c.in_ok-fields.ensures.1
    c.in_ok-parts.parts _ (object-ends c.in_ok-fields.fields.now c.args.region.now c.args.shape.now c.args.library.now
    (length c.in_ok-fields.fields.now) 0
    c.in_ok-parts.parts _ c.in_ok-parts.ensures) c.in_ok-parts.ensures in
    record {
      found = image;
      every = λ other h. image-one (object c.args.region.now c.args.shape.now c.args.library.now) c.args.bytes.now
          c.in_ok-parts.parts other image h;
      first = tt;
      only = λ fault h. image-no_fault (object c.args.region.now c.args.shape.now c.args.library.now) c.args.bytes.now
          c.in_ok-parts.parts fault image h;
    }
