use Rattle.std.proofs.Common.{rules}
use Rattle.record.proofs.Theorem.{field_answer}
use Rattle.record.proofs.fields.Rest.first_field.Goals as goal

pub returns-in-None-clause-rfc : goal.returns-in-None-clause-rfc
returns-in-None-clause-rfc c = field_answer _ _ _ (search rules)

pub returns-in-Some-clause-rfc : goal.returns-in-Some-clause-rfc
returns-in-Some-clause-rfc c = field_answer _ _ _ (search rules)
