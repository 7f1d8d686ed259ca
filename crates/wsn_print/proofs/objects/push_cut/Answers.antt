use Rattle.std.proofs.Common.{codes}
use Rattle.wsn_print.specs.Json.{number_field, number_or_null_field}
use Rattle.wsn_print.specs.Objects.{count_fields}
use Rattle.wsn_print.proofs.Appended.{four}
use Rattle.wsn_print.proofs.objects.push_cut.Goals as goal

pub returns-clause-text : goal.returns-clause-text
returns-clause-text g c =
    let s = c.args.summary.now in
    four c.args.line.now c.push.new.self c.push_number_field.new.line c.push_size.new.line c.push_counts.new.line
    (codes "\"verdict\":\"cut\"") (number_field (codes "used") s.used) (number_or_null_field (codes "unfinished") s.unfinished) (count_fields s)
    c.push.ensures.text c.push_number_field.ensures.text c.push_size.ensures.text c.push_counts.ensures.text
