use Rattle.std.proofs.Common.{◌≡◌, ℕ, List, None, length, get_or, ap, arith}
use Rattle.std.proofs.lemmas.Option.{slice_get-get_or}
use Rattle.region_plan.proofs.Porting.{TwoCells, best_near, best_lesser, best_second}
use Rattle.region_plan.proofs.ports.best_way.Goals as goal

pub returns-in-Some-2 : goal.returns-in-Some-2
returns-in-Some-2 c =
    let two : length c.side.result ≡ 2 = omega (arith, c.side.type_inv) in
    let t : TwoCells c.args.layout.now c.args.side c.side.result (get_or c.side.result 0 None) (get_or c.side.result 1 None) =
    record { on = c.side.ensures.value; up = c.side.ensures.ascending; two = two; first = slice_get-get_or c.side.result 0 None (omega arith); second = slice_get-get_or c.side.result 1 None (omega arith) } in
    best_lesser c.args.layout.now c.args.look.now c.args.side c.side.result _ _ _ c.in-Some.way c.in-Some-2.lesser c.in_ok-way.field-0 c.in_ok-lesser-in-Some.field-0 t c.in-Some.is c.in_ok-way.ensures c.in-Some-2.is c.in_ok-lesser-in-Some.ensures

pub returns-in-None-2 : goal.returns-in-None-2
returns-in-None-2 c =
    let two : length c.side.result ≡ 2 = omega (arith, c.side.type_inv) in
    let t : TwoCells c.args.layout.now c.args.side c.side.result (get_or c.side.result 0 None) (get_or c.side.result 1 None) =
    record { on = c.side.ensures.value; up = c.side.ensures.ascending; two = two; first = slice_get-get_or c.side.result 0 None (omega arith); second = slice_get-get_or c.side.result 1 None (omega arith) } in
    best_near c.args.layout.now c.args.look.now c.args.side c.side.result _ _ _ c.in-Some.way c.in_ok-way.field-0 c.in_ok-lesser-in-Some.field-0 t c.in-Some.is c.in_ok-way.ensures c.in-None-2.is c.in_ok-lesser-in-Some.ensures

pub returns-in_ok-other-in-None : goal.returns-in_ok-other-in-None
returns-in_ok-other-in-None c =
    let two : length c.side.result ≡ 2 = omega (arith, c.side.type_inv) in
    let t : TwoCells c.args.layout.now c.args.side c.side.result (get_or c.side.result 0 None) (get_or c.side.result 1 None) =
    record { on = c.side.ensures.value; up = c.side.ensures.ascending; two = two; first = slice_get-get_or c.side.result 0 None (omega arith); second = slice_get-get_or c.side.result 1 None (omega arith) } in
    let count : length c.ready_of.result.now ≡ length c.args.look.now.ready = ap (λ (xs : List ℕ). length xs) c.ready_of.ensures.value in
    best_second c.args.layout.now c.args.look.now c.args.side c.side.result _ _ _ c.in_ok-way.field-0 c.in_ok-other-in-None.other t count c.in-None.is c.in_ok-way.ensures c.in_ok-other-in-None.ensures
