use Rattle.lsl_lines.proofs.Top.{found_by, every_by, first_by, only_by}
use Rattle.lsl_lines.proofs.read_world.Goals as goal

pub returns : goal.returns
returns c = record {
  found = found_by c.args.text.now c.read_file.result c.read_file.ensures;
  every = every_by c.args.text.now c.read_file.result c.read_file.ensures;
  first = first_by c.args.text.now c.read_file.result c.read_file.ensures;
  only = only_by c.args.text.now c.read_file.result c.read_file.ensures;
}
