use Rattle.lsl_trace.proofs.replaying.serve.Goals as goal

pub returns : goal.returns
returns g c =
    let done = c.lsl.ensures in
    record {
      usage = done.usage;
      nothing = done.nothing;
      kept = done.kept;
      read_fault = done.read_fault;
      write_fault = done.write_fault;
      complete = λ files from trips command answer told words answers calm.
          done.complete files from trips command answer told words answers calm.reads calm.writes;
      headline = λ files from command before trips lines told words tells telling honest outputs calm.
          done.headline files from command before trips lines told words tells telling honest outputs calm.reads
          calm.writes;
      unchanged = done.unchanged;
      reads_counted = done.counted.0;
      writes_counted = done.counted.1;
      links_counted = done.counted.2;
    }
