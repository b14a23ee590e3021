use Rattle.std.proofs.Common.{ap, ◌∙◌}
use Rattle.std.specs.Str.{bytes_eq}
use Rattle.qasm_parse.specs.Words.{is_taken}
use Rattle.qasm_parse.proofs.Chains.{passed, passes_here, none_passed}
use Rattle.qasm_parse.proofs.words.is_taken.Goals as goal

pub returns-then-eq : goal.returns-then-eq
unfolding is_taken
returns-then-eq c =
    let here = c.if-eq.ensures ∙ ap (bytes_eq c.args.word.now) c.as_slice.ensures in
    passed _ _ (passed _ _ (passed _ _ (passed _ _ (passed _ _ (passed _ _ (passed _ _ (passed _ _ (passed _ _ here))))))))

pub returns-then-eq-2 : goal.returns-then-eq-2
unfolding is_taken
returns-then-eq-2 c =
    let here = c.if-eq-2.ensures ∙ ap (bytes_eq c.args.word.now) c.as_slice-2.ensures in
    passed _ _ (passed _ _ (passed _ _ (passed _ _ (passed _ _ (passed _ _ (passed _ _ (passed _ _ (passes_here _ _ here))))))))

pub returns-then-eq-3 : goal.returns-then-eq-3
unfolding is_taken
returns-then-eq-3 c =
    let here = c.if-eq-3.ensures ∙ ap (bytes_eq c.args.word.now) c.as_slice-3.ensures in
    passed _ _ (passed _ _ (passed _ _ (passed _ _ (passed _ _ (passed _ _ (passed _ _ (passes_here _ _ here)))))))

pub returns-then-eq-4 : goal.returns-then-eq-4
unfolding is_taken
returns-then-eq-4 c =
    let here = c.if-eq-4.ensures ∙ ap (bytes_eq c.args.word.now) c.as_slice-4.ensures in
    passed _ _ (passed _ _ (passed _ _ (passed _ _ (passed _ _ (passed _ _ (passes_here _ _ here))))))

pub returns-then-eq-5 : goal.returns-then-eq-5
unfolding is_taken
returns-then-eq-5 c =
    let here = c.if-eq-5.ensures ∙ ap (bytes_eq c.args.word.now) c.as_slice-5.ensures in
    passed _ _ (passed _ _ (passed _ _ (passed _ _ (passed _ _ (passes_here _ _ here)))))

pub returns-then-eq-6 : goal.returns-then-eq-6
unfolding is_taken
returns-then-eq-6 c =
    let here = c.if-eq-6.ensures ∙ ap (bytes_eq c.args.word.now) c.as_slice-6.ensures in
    passed _ _ (passed _ _ (passed _ _ (passed _ _ (passes_here _ _ here))))

pub returns-then-eq-7 : goal.returns-then-eq-7
unfolding is_taken
returns-then-eq-7 c =
    let here = c.if-eq-7.ensures ∙ ap (bytes_eq c.args.word.now) c.as_slice-7.ensures in
    passed _ _ (passed _ _ (passed _ _ (passes_here _ _ here)))

pub returns-then-eq-8 : goal.returns-then-eq-8
unfolding is_taken
returns-then-eq-8 c =
    let here = c.if-eq-8.ensures ∙ ap (bytes_eq c.args.word.now) c.as_slice-8.ensures in
    passed _ _ (passed _ _ (passes_here _ _ here))

pub returns-then-eq-9 : goal.returns-then-eq-9
unfolding is_taken
returns-then-eq-9 c =
    let here = c.if-eq-9.ensures ∙ ap (bytes_eq c.args.word.now) c.as_slice-9.ensures in
    passed _ _ (passes_here _ _ here)

pub returns-then-eq-10 : goal.returns-then-eq-10
unfolding is_taken
returns-then-eq-10 c =
    let here = c.if-eq-10.ensures ∙ ap (bytes_eq c.args.word.now) c.as_slice-10.ensures in
    passes_here _ _ here

pub returns : goal.returns
unfolding is_taken
returns c =
    let no_1 = c.if-eq.ensures ∙ ap (bytes_eq c.args.word.now) c.as_slice.ensures in
    let no_2 = c.if-eq-2.ensures ∙ ap (bytes_eq c.args.word.now) c.as_slice-2.ensures in
    let no_3 = c.if-eq-3.ensures ∙ ap (bytes_eq c.args.word.now) c.as_slice-3.ensures in
    let no_4 = c.if-eq-4.ensures ∙ ap (bytes_eq c.args.word.now) c.as_slice-4.ensures in
    let no_5 = c.if-eq-5.ensures ∙ ap (bytes_eq c.args.word.now) c.as_slice-5.ensures in
    let no_6 = c.if-eq-6.ensures ∙ ap (bytes_eq c.args.word.now) c.as_slice-6.ensures in
    let no_7 = c.if-eq-7.ensures ∙ ap (bytes_eq c.args.word.now) c.as_slice-7.ensures in
    let no_8 = c.if-eq-8.ensures ∙ ap (bytes_eq c.args.word.now) c.as_slice-8.ensures in
    let no_9 = c.if-eq-9.ensures ∙ ap (bytes_eq c.args.word.now) c.as_slice-9.ensures in
    let no_10 = c.if-eq-10.ensures ∙ ap (bytes_eq c.args.word.now) c.as_slice-10.ensures in
    let to_2 = none_passed _ _ no_1 no_2 in
    let to_3 = none_passed _ _ to_2 no_3 in
    let to_4 = none_passed _ _ to_3 no_4 in
    let to_5 = none_passed _ _ to_4 no_5 in
    let to_6 = none_passed _ _ to_5 no_6 in
    let to_7 = none_passed _ _ to_6 no_7 in
    let to_8 = none_passed _ _ to_7 no_8 in
    let to_9 = none_passed _ _ to_8 no_9 in
    none_passed _ _ to_9 no_10
