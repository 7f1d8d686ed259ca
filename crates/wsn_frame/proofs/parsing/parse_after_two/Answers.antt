-- After the first two bytes the length is missing, refused or too big, or a client's key is missing, or the head is complete.
use Rattle.std.proofs.Common.{◌≡◌, ◌<◌, ℕ, None, Some, Ok, Err, List, length, take, drop, length-take-le, ◌-◌, ◌≤◌, ◌+◌, refl, sym, ap, ◌∙◌, subst, arith, rules}
use Rattle.std.proofs.lemmas.Bool.{false≢true}
use Rattle.std.proofs.lemmas.List.{take_rest}
use Rattle.wsn_wire.specs.declared.endpoint.Role.TheVariants.{Client, Server}
use Rattle.wsn_wire.specs.Frame.{IsBytes}
use Rattle.wsn_rules.proofs.PlanTheory.MessageFrames.{bytes_take, bytes_drop}
use Rattle.wsn_frame.proofs.HeadsAtOnce.{bytes_of, read_as, length_lacks, encoding_refused, too_big, key_lacks, whole_head}
use Rattle.wsn_frame.proofs.parsing.parse_after_two.Goals as goal

pub returns-in_default-clause-parsed : goal.returns-in_default-clause-parsed
returns-in_default-clause-parsed c group second is_open two =
    let context = c.args.context.now in
    length_lacks context.role context.limits group c.args.first c.args.encoded second two c.args.following.now (search (rules, c.in_default.ensures.missing))

pub returns-in-Err-clause-parsed : goal.returns-in-Err-clause-parsed
returns-in-Err-clause-parsed c group second is_open two =
    let context = c.args.context.now in
    let count = c.count-count.result in
    encoding_refused context.role context.limits group c.args.first c.args.encoded second two c.args.following.now count c.count-count.ensures
    (omega (arith, c.in-Some.ensures.read.0, c.count-count.ensures)) c.in-Err.reason
    (read_as c.lengths.result context.limits.lengths c.args.encoded c.args.following.now count c.in-Some.read (Err c.in-Err.reason) c.lengths.ensures c.count-count.ensures c.in-Err.is c.in-Some.ensures.read.1)

pub returns-then-is_too_big-clause-parsed : goal.returns-then-is_too_big-clause-parsed
returns-then-is_too_big-clause-parsed c group second is_open two =
    let context = c.args.context.now in
    let count = c.count-count.result in
    let length_is = read_as c.lengths.result context.limits.lengths c.args.encoded c.args.following.now count c.in-Some.read (Ok c.in-Ok.len) c.lengths.ensures c.count-count.ensures c.in-Ok.is c.in-Some.ensures.read.1 in
    too_big context.role context.limits group c.args.first c.args.encoded second two c.args.following.now count c.count-count.ensures
    (omega (arith, c.in-Some.ensures.read.0, c.count-count.ensures)) c.in-Ok.len length_is.0 length_is.1 ((c.if-is_too_big.ensures group is_open).0 refl)

pub returns-in-None-clause-parsed : goal.returns-in-None-clause-parsed
returns-in-None-clause-parsed c group second is_open two =
    let context = c.args.context.now in
    let following = c.args.following.now in
    let count = c.count-count.result in
    let length_is = read_as c.lengths.result context.limits.lengths c.args.encoded c.args.following.now count c.in-Some.read (Ok c.in-Ok.len) c.lengths.ensures c.count-count.ensures c.in-Ok.is c.in-Some.ensures.read.1 in
    let left : length (take (length following - count) (drop count following)) < 4 = c.in-None.ensures.cases in
    key_lacks context.role context.limits group c.args.first c.args.encoded second two following count c.count-count.ensures
    (omega (arith, c.in-Some.ensures.read.0, c.count-count.ensures)) c.in-Ok.len length_is.0 length_is.1 (λ big. false≢true ((c.if-is_too_big.ensures group is_open).1 big))
    c.in-Client.is (subst (λ (bs : List ℕ). length bs < 4) (take_rest following count) left)

pub returns-in-Some-first_chunk-clause-parsed : goal.returns-in-Some-first_chunk-clause-parsed
returns-in-Some-first_chunk-clause-parsed c group second is_open two =
    let context = c.args.context.now in
    let following = c.args.following.now in
    let count = c.count-count.result in
    let length_is = read_as c.lengths.result context.limits.lengths c.args.encoded c.args.following.now count c.in-Some.read (Ok c.in-Ok.len) c.lengths.ensures c.count-count.ensures c.in-Ok.is c.in-Some.ensures.read.1 in
    let in_bytes = bytes_of following (λ i. let below = c.type_inv.following i in omega (arith, below)) in
    let chunk = c.in-Some-first_chunk.ensures.cases in
    let key = c.in-Some-first_chunk.key.now in
    let left = take_rest following count in
    let key_is : key ≡ take 4 (drop count following) = chunk.same ∙ ap (λ (bs : List ℕ). take 4 bs) left in
    let enough : 4 ≤ length (drop count following) = subst (λ (bs : List ℕ). 4 ≤ length bs) left chunk.enough in
    let of_four = subst (λ (bs : List ℕ). (length bs ≡ 4) × IsBytes bs) (sym key_is) (length-take-le 4 (drop count following) enough, bytes_take 4 (drop count following) (bytes_drop count following in_bytes)) in
    whole_head context.role context.limits group c.args.first c.args.encoded second two following count c.count-count.ensures
    (omega (arith, c.in-Some.ensures.read.0, c.count-count.ensures)) c.in-Ok.len length_is.0 length_is.1 (λ big. false≢true ((c.if-is_too_big.ensures group is_open).1 big))
    (Some key) (6 + count) 4 in_bytes ((λ _. c.in-Client.is), (λ _. refl)) of_four (omega arith) key_is

pub returns-in-Server-clause-parsed : goal.returns-in-Server-clause-parsed
returns-in-Server-clause-parsed c group second is_open two =
    let context = c.args.context.now in
    let following = c.args.following.now in
    let count = c.count-count.result in
    let length_is = read_as c.lengths.result context.limits.lengths c.args.encoded c.args.following.now count c.in-Some.read (Ok c.in-Ok.len) c.lengths.ensures c.count-count.ensures c.in-Ok.is c.in-Some.ensures.read.1 in
    let in_bytes = bytes_of following (λ i. let below = c.type_inv.following i in omega (arith, below)) in
    whole_head context.role context.limits group c.args.first c.args.encoded second two following count c.count-count.ensures
    (omega (arith, c.in-Some.ensures.read.0, c.count-count.ensures)) c.in-Ok.len length_is.0 length_is.1 (λ big. false≢true ((c.if-is_too_big.ensures group is_open).1 big))
    None (2 + count) 0 in_bytes ((λ some. absurd (false≢true some)), (λ client. absurd (let no : Client ≡ Server = sym client ∙ c.in-Server.is in cc))) tt (omega arith) refl

pub overflow_add-result : goal.overflow_add-result
overflow_add-result c = search rules

pub returns-in-Err-clause-within : goal.returns-in-Err-clause-within
returns-in-Err-clause-within c = search (rules, c.in-Some.ensures.read.0, c.count-count.ensures)

pub overflow_add-result-then-is_too_big : goal.overflow_add-result-then-is_too_big
overflow_add-result-then-is_too_big c = search rules

pub returns-then-is_too_big-clause-within : goal.returns-then-is_too_big-clause-within
returns-then-is_too_big-clause-within c = search (rules, c.in-Some.ensures.read.0, c.count-count.ensures)

pub slice_bounds-first_chunk-count : goal.slice_bounds-first_chunk-count
slice_bounds-first_chunk-count c = search (rules, c.in-Some.ensures.read.0, c.count-count.ensures)

pub slice_bounds-first_chunk-start : goal.slice_bounds-first_chunk-start
slice_bounds-first_chunk-start c = search rules

pub slice_bounds-first_chunk-end : goal.slice_bounds-first_chunk-end
slice_bounds-first_chunk-end c = search rules

pub first_chunk-requires : goal.first_chunk-requires
first_chunk-requires c = search rules

pub overflow_add-size : goal.overflow_add-size
overflow_add-size c = search rules

pub overflow_add-size-in-Server : goal.overflow_add-size-in-Server
overflow_add-size-in-Server c = search rules

pub returns-in-Some-first_chunk-clause-within : goal.returns-in-Some-first_chunk-clause-within
returns-in-Some-first_chunk-clause-within c = search rules

pub returns-in-Server-clause-within : goal.returns-in-Server-clause-within
returns-in-Server-clause-within c = search (rules, c.in-Some.ensures.read.0, c.count-count.ensures)
