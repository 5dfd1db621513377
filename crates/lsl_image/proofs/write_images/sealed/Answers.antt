use Rattle.std.proofs.Common.{◌∙◌, ◌+◌, ap, arith, length}
use Rattle.sha2.specs.Sha256.{sha256}
use Rattle.lsl_image.proofs.SealedLemmas.{length-head, sealed-is}
use Rattle.lsl_image.proofs.write_images.sealed.Goals as goal

pub put_head-requires : goal.put_head-requires
put_head-requires c =
    omega (
      arith,
      c.requires,
      ap length c.as_slice.ensures.value,
      ap length c.in_ok-head.ensures,
      length-head c.args.letters.now 2 (c.len.result + 32) c.told-letters,
    )

pub returns-clause-bytes : goal.returns-clause-bytes
returns-clause-bytes c =
    sealed-is c.args.letters.now c.args.out.items c.as_slice.result.now c.put_head.new.out.items
    c.digest_of-digest.result c.write_digest.new.out.items (c.len.result + 32) c.told-letters c.requires
    (omega (arith, c.len.ensures)) (c.as_slice.ensures.value ∙ c.in_ok-head.ensures) c.put_head.ensures
    (c.digest_of-digest.ensures ∙ ap sha256 c.as_slice-2.ensures.value) c.in_ok-write_digest.ensures.ok
