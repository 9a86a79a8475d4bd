-- What the leader says of the directory.
use Rattle.std.proofs.Common.{◌-◌, ◌/◌, sym, ap, arith}
use Rattle.record.proofs.Sound.{based, between}
use Rattle.record.proofs.directory.Directory.new.Goals as goal

pub overflow_sub-entries : goal.overflow_sub-entries
overflow_sub-entries c = omega (arith, based c.args.bytes.now c.requires.led, c.told_base.ensures.value)

pub invariant_of-result : goal.invariant_of-result
invariant_of-result c =
    let is = based c.args.bytes.now c.requires.led in
    let count = ap (λ m. (m - 25) / 12) c.told_base.ensures.value in
    record {
      counted = count;
      based = omega (arith, is, count);
      inside = is.inside;
      short = (between 26 99999 _ (sym c.requires.sized)).1;
    }
