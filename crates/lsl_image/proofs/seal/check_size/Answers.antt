use Rattle.std.proofs.Common.{subst, refl, inr, arith}
use Rattle.lsl_image.specs.Images.{HasSize, IsOuterFault, NamesSize}
use Rattle.lsl_image.proofs.SealLemmas.{bytes-there, size-named}
use Rattle.lsl_image.proofs.seal.check_size.Goals as goal

pub returns-in_err-size : goal.returns-in_err-size
returns-in_err-size c =
    bytes-there (λ _. HasSize c.args.bytes.now) (IsOuterFault c.args.bytes.now) c.args.bytes.now 6 8 _ _
    (omega (arith, c.if-bytes-lt-LEAST_BYTES.false)) c.in_err-size.ensures c.from_residual.ensures.1

pub returns-then-wanted-bytes : goal.returns-then-wanted-bytes
returns-then-wanted-bytes c =
    let named : NamesSize c.args.bytes.now c.from_be_bytes-wanted.result =
    size-named c.args.bytes.now c.in_ok-size.size c.from_be_bytes-wanted.result c.in_ok-size._next
    (λ i. omega (arith, c.type_inv.bytes i)) (omega arith) c.from_be_bytes-wanted.ensures c.in_ok-size.ensures in
    rw c.other_size-then-wanted-bytes.ensures (
      refl,
      inr
          (c.if-bytes-lt-LEAST_BYTES.false, named, c.if-wanted-bytes.true),
    )

pub returns : goal.returns
returns c =
    let named : NamesSize c.args.bytes.now c.from_be_bytes-wanted.result =
    size-named c.args.bytes.now c.in_ok-size.size c.from_be_bytes-wanted.result c.in_ok-size._next
    (λ i. omega (arith, c.type_inv.bytes i)) (omega arith) c.from_be_bytes-wanted.ensures c.in_ok-size.ensures in
    (c.if-bytes-lt-LEAST_BYTES.false, subst (NamesSize c.args.bytes.now) c.if-wanted-bytes.false named)
