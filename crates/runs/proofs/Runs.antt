-- The reference runs, by computation. Assumes nothing.
use Rattle.std.proofs.Common.{refl}
use Rattle.std.specs.Fmt.{digits}
use Rattle.fixpoint.specs.Rounds.{after_rounds, merged_below, visits}
use Rattle.fixpoint.specs.Settled.{settled_table}
use Rattle.blocksets.specs.Members.{size}
use Rattle.analysis.specs.Sheets.{sheet_below}
use Rattle.runs.specs.Runs.{CacheRuns, InterruptedLoop, LineThereAndBack, LoopOfThree, ReferenceRuns, RefusedFiles, SampleFile}
use Rattle.runs.proofs.LoopOfFour.{of_four}

of_three : LoopOfThree
unfolding settled_table after_rounds visits merged_below size
of_three = record { one = refl; two = refl }

there_and_back : LineThereAndBack
unfolding settled_table after_rounds visits merged_below size sheet_below
there_and_back = record { one = refl; two = refl; three = refl; all_four = refl; whole = refl }

sample_file : SampleFile
unfolding settled_table after_rounds visits merged_below size sheet_below digits
sample_file = record { prints = refl }

refused_files : RefusedFiles
unfolding digits
refused_files = record { empty_file = refl; only_end = refl }

cache_runs : CacheRuns
cache_runs = record { tree = refl; fifo = refl; fifo_more = refl }

interrupted_loop_run : InterruptedLoop
unfolding settled_table after_rounds visits merged_below size
interrupted_loop_run = record { counts = refl; refused = refl }

pub reference_runs : ReferenceRuns
reference_runs = record {
  loop_of_four = of_four;
  loop_of_three = of_three;
  line_there_and_back = there_and_back;
  sample_file = sample_file;
  refused_files = refused_files;
  cache_runs = cache_runs;
  interrupted_loop_run = interrupted_loop_run;
}
