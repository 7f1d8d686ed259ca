use Rattle.std.proofs.Common.{◌≡◌, ◌++◌, ℕ, List, [], drop, refl, sym, ap, ◌∙◌, subst, arith, append-nil, length-drop}
use Rattle.std.proofs.lemmas.List.{drop_all}
use Rattle.std.proofs.KnownBytes.{Appends-nil}
use Rattle.wsn_print.specs.Runs.{escaped}
use Rattle.wsn_print.proofs.Gathered.{gathers_on, part_added, gathering_stopped, held_stopped}
use Rattle.wsn_print.proofs.RunTexts.{rest_of}
use Rattle.wsn_print.proofs.quoted.hold_escaped.Goals as goal

pub loop-at-init : goal.loop-at-init
loop-at-init g c = (c.args.held.now, ([], refl, (c.requires, Appends-nil c.args.to.now.written)), refl, omega arith)

pub returns-in_err-make_room : goal.returns-in_err-make_room
returns-in_err-make_room g c =
    let so_far = c.loop-at.invariant in
    let held = c.in_err-make_room.ensures.kept in
    let added : List ℕ = escaped c.args.escapes c.args.text.now in
    held_stopped c.args.to.now c.make_room.new.to c.args.held.now c.make_room.new.self added c.in_err-make_room.field-0.0 c.from_residual.result c.from_residual.ensures.1
    (gathering_stopped c.args.to.now c.loop-at.to c.make_room.new.to so_far.0 c.loop-at.held held.0 c.make_room.new.self
    (escaped c.args.escapes (drop c.loop-at.at c.args.text.now)) (c.args.held.now ++ added)
    c.in_err-make_room.field-0.0 c.from_residual.result so_far.1 so_far.2 held.1 held.2 c.from_residual.ensures.1)

pub loop-at-preserved : goal.loop-at-preserved
loop-at-preserved g c =
    let so_far = c.loop-at.invariant in
    let held = c.in_ok-make_room.ensures.kept in
    let added = c.add_start-at.ensures.added in
    let at : ℕ = c.loop-at.at in
    let n : ℕ = c.add_start-at.result in
    let text : List ℕ = c.args.text.now in
    let next = subst (λ (rest : List ℕ). escaped c.args.escapes rest ≡ added.0 ++ escaped c.args.escapes (drop n rest)) (rest_of at text) added.2 in (
      so_far.0 ++ added.0,
      gathers_on c.args.to.now c.loop-at.to c.make_room.new.to so_far.0 c.loop-at.held c.make_room.new.self c.add_start-at.new.self added.0 so_far.1
          (held.0, held.1, held.2) added.1,
      part_added (escaped c.args.escapes) (c.args.held.now ++ escaped c.args.escapes text) text so_far.0 added.0 at n so_far.2 next,
      omega (arith, c.add_start-at.ensures.within.1, length-drop at text),
    )

pub returns : goal.returns
returns g c =
    let so_far = c.loop-at.invariant in
    let text : List ℕ = c.args.text.now in
    let none : drop c.loop-at.at text ≡ [] = drop_all c.loop-at.at text (omega arith) in
    let all : c.args.held.now ++ escaped c.args.escapes text ≡ so_far.0 =
    so_far.2 ∙ ap (λ (rest : List ℕ). so_far.0 ++ escaped c.args.escapes rest) none ∙ append-nil so_far.0 in
    (so_far.1.0, so_far.1.1 ∙ sym all, so_far.1.2)
