use Rattle.std.proofs.Common.{codes}
use Rattle.wsn_print.specs.Json.{field, number_field, number_or_null_field}
use Rattle.wsn_print.specs.Objects.{count_fields, close_value}
use Rattle.wsn_print.proofs.Appended.{six}
use Rattle.wsn_print.proofs.objects.push_accepted.Goals as goal

pub returns-clause-text : goal.returns-clause-text
returns-clause-text g c =
    let s = c.args.summary.now in
    six c.args.line.now c.push.new.self c.push_number_field.new.line c.push_number_field-2.new.line c.push_size.new.line c.push_counts.new.line c.push_close.new.line
    (codes "\"verdict\":\"accepted\"") (number_field (codes "used") s.used) (number_field (codes "tail") s.tail) (number_or_null_field (codes "unfinished") s.unfinished) (count_fields s) (field (codes "close") (close_value s.close))
    c.push.ensures.text c.push_number_field.ensures.text c.push_number_field-2.ensures.text c.push_size.ensures.text c.push_counts.ensures.text c.push_close.ensures.text
