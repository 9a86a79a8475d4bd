-- Each call has a digit less to write.
use Rattle.std.proofs.Common.{length}
use Rattle.record.proofs.output.+put_figure.Given as goal

abbrev pub decreases-put_figure : goal.decreases-put_figure
decreases-put_figure l = length l.out.now
