use Rattle.std.proofs.Common.{rules, [], ◌∷◌, decimal}
use Rattle.slice_write.specs.Pictures.{picture, nobody}
use Rattle.fault_lines.proofs.Sinks.{grew_on, part_longer, part_on}
use Rattle.tool_top.proofs.layout.write_layout.Goals as goal

pub returns-in_err-write_number-clause-part : goal.returns-in_err-write_number-clause-part
returns-in_err-write_number-clause-part g c =
    let first = rw c.rows.ensures.value at c.in_err-write_number.ensures.part in
    let part = part_longer _ _ _ (picture c.args.layout.now nobody) (part_longer _ _ _ (10 ∷ []) (part_longer _ _ _ (32 ∷ decimal c.args.layout.now.columns) first)) in
    search rules

pub returns-in_err-write_number-2-clause-part : goal.returns-in_err-write_number-2-clause-part
returns-in_err-write_number-2-clause-part g c =
    let first = rw c.rows.ensures.value at c.in_ok-write_number.ensures.all in
    let second = rw c.columns.ensures.value at c.in_err-write_number-2.ensures.part in
    let part = part_longer _ _ _ (picture c.args.layout.now nobody) (part_longer _ _ _ (10 ∷ []) (part_on _ _ _ _ _ first second)) in
    search rules

pub returns-in_err-write_all-clause-part : goal.returns-in_err-write_all-clause-part
returns-in_err-write_all-clause-part g c =
    let first = rw c.rows.ensures.value at c.in_ok-write_number.ensures.all in
    let second = rw c.columns.ensures.value at c.in_ok-write_number-2.ensures.all in
    let part = part_longer _ _ _ (picture c.args.layout.now nobody) (part_on _ _ _ _ _ (grew_on _ _ _ _ _ first second) c.in_err-write_all.ensures.prefix) in
    search rules

pub returns-in_err-write_picture-clause-part : goal.returns-in_err-write_picture-clause-part
returns-in_err-write_picture-clause-part g c =
    let first = rw c.rows.ensures.value at c.in_ok-write_number.ensures.all in
    let second = rw c.columns.ensures.value at c.in_ok-write_number-2.ensures.all in
    let part = part_on _ _ _ _ _ (grew_on _ _ _ _ _ (grew_on _ _ _ _ _ first second) c.in_ok-write_all.ensures.all) c.in_err-write_picture.ensures.prefix in
    search rules
