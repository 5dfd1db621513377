use Rattle.std.proofs.Common.{◌≡◌, ◌∙◌, sym, arith, take, drop}
use Rattle.std.proofs.lemmas.Bool.{false≢true}
use Rattle.std.proofs.lemmas.Slice.Eq.{bytes_eq-Decides}
use Rattle.sha2.specs.Sha256.{sha256}
use Rattle.lsl_image.specs.Images.{IsDigestFault}
use Rattle.lsl_image.proofs.SealLemmas.{bytes-there, last-are}
use Rattle.lsl_image.proofs.seal.check_digest.Goals as goal

pub returns-in_err-wanted : goal.returns-in_err-wanted
returns-in_err-wanted c =
    bytes-there (λ _. drop c.args.end c.args.bytes.now ≡ sha256 (take c.args.end c.args.bytes.now))
    (IsDigestFault (take c.args.end c.args.bytes.now) (drop c.args.end c.args.bytes.now)) c.args.bytes.now
    c.args.end 32 _ _ (omega (arith, c.requires)) c.in_err-wanted.ensures c.from_residual.ensures.1

pub returns-then-not-are_same : goal.returns-then-not-are_same
returns-then-not-are_same c = (
  c.digest_of-found.ensures,
  last-are c.args.bytes.now c.in_ok-wanted.wanted c.args.end 32 c.in_ok-wanted._next c.requires c.in_ok-wanted.ensures,
  λ e. false≢true (sym (sym c.are_same.ensures ∙ c.if-not-are_same.true)
      ∙ (bytes_eq-Decides c.digest_of-found.result c.in_ok-wanted.wanted).1 e),
)

pub returns : goal.returns
returns c =
    sym (last-are c.args.bytes.now c.in_ok-wanted.wanted c.args.end 32 c.in_ok-wanted._next c.requires
    c.in_ok-wanted.ensures)
    ∙ sym ((bytes_eq-Decides c.digest_of-found.result c.in_ok-wanted.wanted).0
    (sym c.are_same.ensures ∙ c.if-not-are_same.false))
    ∙ c.digest_of-found.ensures
