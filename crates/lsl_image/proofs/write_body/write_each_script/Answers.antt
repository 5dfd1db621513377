use Rattle.lsl_image.specs.Valid.{HasUnit}
use Rattle.lsl_image.proofs.WroteLemmas.{each-at, script-few}
use Rattle.lsl_image.proofs.write_body.write_each_script.Goals as goal

pub write_script-requires : goal.write_script-requires
write_script-requires c =
    script-few c.args.library.now c.script-item.result (each-at (HasUnit c.args.library.now) c.args.scripts.now
    c.loop-script.script-index c.script-item.result c.requires c.loop-script-test.true c.script-item.is)
