use Rattle.std.proofs.Common.{◌≤◌, length, sym, subst, arith, rules}
use Rattle.trace.proofs.Lengths.{fault_record_fits}
use Rattle.trace.proofs.Zeros.{in_zeros}
use Rattle.trace.specs.Records.{fault_record}
use Rattle.trace.proofs.records.fault_record.Goals as goal

pub returns : goal.returns
returns c =
    let fits : length (fault_record c.args.fault) ≤ 48 = fault_record_fits c.args.fault (omega arith) (omega arith) in
    let w = in_zeros 48 (fault_record c.args.fault) _ _ fits c.fault.ensures.text in
    record { bytes = search (rules, w.0); used = w.1; within = subst (λ n. n ≤ 48) (sym w.1) fits }
