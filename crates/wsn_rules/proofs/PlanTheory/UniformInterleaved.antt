-- A uniform plan with `weave` is the one without, interleaved; in that one, no control is inside a message.
use Rattle.std.proofs.Common.{◌≡◌, ℕ, zero, suc, Bool, true, false, List, Option, [], ◌∷◌, ◌++◌, length, take, drop, replicate, refl, sym, ap, ◌∙◌, subst, append_assoc, append-nil, take-append-drop}
use Rattle.std.proofs.lemmas.List.Elements.{filter-append}
use Rattle.wsn_wire.specs.declared.opcode.Kind.{Kind}
use Rattle.wsn_wire.specs.declared.length_encoding.Form.TheVariants.{Shortest}
use Rattle.wsn_rules.specs.declared.step.Step.{Step}
use Rattle.wsn_rules.specs.declared.step.Step.TheVariants.{Piece, Last, Control}
use Rattle.wsn_rules.specs.Meaning.{MeantEvent}
use Rattle.wsn_rules.specs.Meaning as meant
use Rattle.wsn_rules.specs.Plan.{is_end, ends, pending}
use Rattle.wsn_rules.specs.UniformPlan.{piece_count, uniform_pieces, ahead, uniform_after, uniform_plan}
use Rattle.wsn_rules.specs.InterleavedPlan.{is_of_message, of_messages, next_pieces, IsInterleaved}
use Rattle.wsn_rules.proofs.Prefixes.{nil-cons, nil-parts}
use Rattle.wsn_rules.proofs.PlanTheory.ControlsFromTheFront.{ControlsStand, stands_in_plan, IsBehindFirst}

-- ---- a run of controls has no step of a message

next_after : (run following : List Step) → of_messages run ≡ [] → next_pieces (run ++ following) ≡ next_pieces following
next_after [] following none = refl
next_after (Piece len key form ∷ run) following none =
    absurd (nil-cons (Piece len key form) (of_messages run) (sym none))
next_after (Last key form ∷ run) following none = absurd (nil-cons (Last key form) (of_messages run) (sym none))
next_after (Control key ∷ run) following none = next_after run following none

after_first : (pieces following : List Step) → IsBehindFirst pieces following → (run : List Step) → of_messages run ≡ []
    → IsBehindFirst pieces (run ++ following)
after_first pieces following is run none =
    is ∙ ap (λ (steps : List Step). take 1 (pieces ++ steps)) (sym (next_after run following none))

module _ (HasScanned : List Step → List Step → Type 0) where
  run_stands : (pieces run following : List Step) → of_messages run ≡ []
      → ((more : List Step) → of_messages more ≡ [] → HasScanned pieces (more ++ following))
      → ControlsStand HasScanned pieces following → ControlsStand HasScanned pieces (run ++ following)
  run_stands pieces [] following none each later = later
  run_stands pieces (Piece len key form ∷ run) following none each later =
      absurd (nil-cons (Piece len key form) (of_messages run) (sym none))
  run_stands pieces (Last key form ∷ run) following none each later =
      absurd (nil-cons (Last key form) (of_messages run) (sym none))
  run_stands pieces (Control key ∷ run) following none each later =
      (each run none, run_stands pieces run following none each later)

-- No Piece is pending.
abbrev IsBehindNone : List Step → List Step → Type 0
IsBehindNone pieces following = pieces ≡ []

-- ---- parts of a message's steps, with a run between them

ends_of_parts : (front run rest following : List Step) → ends front ≡ [] → ends rest ≡ []
    → ends (front ++ (run ++ (rest ++ following))) ≡ ends run ++ ends following
ends_of_parts front run rest following none no_more =
    filter-append is_end front (run ++ (rest ++ following))
    ∙ ap (λ (steps : List Step). steps ++ ends (run ++ (rest ++ following))) none
    ∙ filter-append is_end run (rest ++ following)
    ∙ ap (λ (steps : List Step). ends run ++ steps) (filter-append is_end rest following)
    ∙ ap (λ (steps : List Step). ends run ++ (steps ++ ends following)) no_more

messages_of_parts : (front run rest following : List Step) → of_messages run ≡ []
    → of_messages (front ++ (run ++ (rest ++ following))) ≡ of_messages ((front ++ rest) ++ following)
messages_of_parts front run rest following none =
    filter-append is_of_message front (run ++ (rest ++ following))
    ∙ ap (λ (steps : List Step). of_messages front ++ steps) (filter-append is_of_message run (rest ++ following))
    ∙ ap (λ (steps : List Step). of_messages front ++ (steps ++ of_messages (rest ++ following))) none
    ∙ sym (filter-append is_of_message front (rest ++ following))
    ∙ ap of_messages (sym (append_assoc front rest following))

module _ (size : ℕ) (key : Option (List ℕ)) where
  abbrev piece : Step
  piece = Piece size key Shortest

  abbrev uniform : Bool → List MeantEvent → List Step
  uniform weave events = uniform_after size weave key [] events

  -- ---- the same ends and steps of messages

  no_ends : (n : ℕ) → ends (replicate n piece) ≡ []
  no_ends zero = refl
  no_ends (suc n) = no_ends n

  no_ends_in_parts : (count n : ℕ)
      → (ends (take count (replicate n piece)) ≡ []) × (ends (drop count (replicate n piece)) ≡ [])
  no_ends_in_parts count n =
      let front = take count (replicate n piece) in
      let rest = drop count (replicate n piece) in
      let whole : ends (front ++ rest) ≡ [] = ap ends (take-append-drop count (replicate n piece)) ∙ no_ends n in
      nil-parts (ends front) (ends rest) (sym whole ∙ filter-append is_end front rest)

  one_more_control : (run : List Step) → of_messages run ≡ [] → of_messages (run ++ Control key ∷ []) ≡ []
  one_more_control run none =
      filter-append is_of_message run (Control key ∷ []) ∙ ap (λ (steps : List Step). steps ++ []) none

  module _ (weave : Bool) (run : List Step) (kind : Kind) (text : List ℕ) (events : List MeantEvent) where
    ends_of_message : ends (uniform_after size weave key run (meant.Message kind text ∷ events))
        ≡ ends run ++ Last key Shortest ∷ ends (uniform weave events)
    ends_of_message =
        let pieces = uniform_pieces size key text in
        let none = no_ends_in_parts (ahead weave) (piece_count size (length text)) in
        ends_of_parts (take (ahead weave) pieces) run (drop (ahead weave) pieces)
        (Last key Shortest ∷ uniform weave events) none.0 none.1

    steps_of_message : of_messages run ≡ []
        → of_messages (uniform_after size weave key run (meant.Message kind text ∷ events))
        ≡ of_messages (uniform_pieces size key text) ++ Last key Shortest ∷ of_messages (uniform weave events)
    steps_of_message none =
        let pieces = uniform_pieces size key text in
        let following = Last key Shortest ∷ uniform weave events in
        messages_of_parts (take (ahead weave) pieces) run (drop (ahead weave) pieces) following none
        ∙ ap (λ (steps : List Step). of_messages (steps ++ following)) (take-append-drop (ahead weave) pieces)
        ∙ filter-append is_of_message pieces following

  same_ends : (run : List Step) (events : List MeantEvent)
      → ends (uniform_after size true key run events) ≡ ends (uniform_after size false key run events)
  same_ends run [] = refl
  same_ends run (meant.Control op body ∷ events) = same_ends (run ++ Control key ∷ []) events
  same_ends run (meant.Message kind text ∷ events) =
      ends_of_message true run kind text events
      ∙ ap (λ (steps : List Step). ends run ++ Last key Shortest ∷ steps) (same_ends [] events)
      ∙ sym (ends_of_message false run kind text events)

  same_messages : (run : List Step) (events : List MeantEvent) → of_messages run ≡ []
      → of_messages (uniform_after size true key run events)
      ≡ of_messages (uniform_after size false key run events)
  same_messages run [] none = refl
  same_messages run (meant.Control op body ∷ events) none =
      same_messages (run ++ Control key ∷ []) events (one_more_control run none)
  same_messages run (meant.Message kind text ∷ events) none =
      let pieces = of_messages (uniform_pieces size key text) in
      steps_of_message true run kind text events none
      ∙ ap (λ (steps : List Step). pieces ++ Last key Shortest ∷ steps) (same_messages [] events refl)
      ∙ sym (steps_of_message false run kind text events none)

  -- ---- where the controls are

  pieces_stand : (HasScanned : List Step → List Step → Type 0) (n : ℕ) (pieces plan : List Step)
      → ControlsStand HasScanned [] plan → ControlsStand HasScanned pieces (replicate n piece ++ (Last key Shortest ∷ plan))
  pieces_stand HasScanned zero pieces plan later = later
  pieces_stand HasScanned (suc n) pieces plan later = pieces_stand HasScanned n (pieces ++ piece ∷ []) plan later

  interleaved_message : (n : ℕ) (run plan : List Step) → of_messages run ≡ [] → ControlsStand IsBehindFirst [] plan
      → ControlsStand IsBehindFirst []
      (take 1 (replicate n piece) ++ (run ++ (drop 1 (replicate n piece) ++ (Last key Shortest ∷ plan))))
  interleaved_message zero run plan none later =
      let following = Last key Shortest ∷ plan in
      run_stands IsBehindFirst [] run following none (after_first [] following refl) later
  interleaved_message (suc n) run plan none later =
      let following = replicate n piece ++ (Last key Shortest ∷ plan) in
      run_stands IsBehindFirst (piece ∷ []) run following none (after_first (piece ∷ []) following refl)
      (pieces_stand IsBehindFirst n (piece ∷ []) plan later)

  interleaved_controls : (run : List Step) (events : List MeantEvent) → of_messages run ≡ []
      → ControlsStand IsBehindFirst [] (uniform_after size true key run events)
  interleaved_controls run [] none =
      subst (ControlsStand IsBehindFirst []) (append-nil run)
      (run_stands IsBehindFirst [] run [] none (after_first [] [] refl) tt)
  interleaved_controls run (meant.Control op body ∷ events) none =
      interleaved_controls (run ++ Control key ∷ []) events (one_more_control run none)
  interleaved_controls run (meant.Message kind text ∷ events) none =
      interleaved_message (piece_count size (length text)) run (uniform true events) none (interleaved_controls [] events refl)

  plain_controls : (run : List Step) (events : List MeantEvent) → of_messages run ≡ []
      → ControlsStand IsBehindNone [] (uniform_after size false key run events)
  plain_controls run [] none =
      subst (ControlsStand IsBehindNone []) (append-nil run)
      (run_stands IsBehindNone [] run [] none (λ more without. refl) tt)
  plain_controls run (meant.Control op body ∷ events) none =
      plain_controls (run ++ Control key ∷ []) events (one_more_control run none)
  plain_controls run (meant.Message kind text ∷ events) none =
      let plan = uniform false events in
      run_stands IsBehindNone [] run (uniform_pieces size key text ++ (Last key Shortest ∷ plan)) none
      (λ more without. refl)
      (pieces_stand IsBehindNone (piece_count size (length text)) [] plan (plain_controls [] events refl))

  pub uniform_is_interleaved : (events : List MeantEvent)
      → IsInterleaved (uniform_plan size false key events) (uniform_plan size true key events)
  uniform_is_interleaved events = record {
    ends = same_ends [] events;
    messages = same_messages [] events refl;
    controls = stands_in_plan IsBehindFirst (uniform_plan size true key events) (interleaved_controls [] events refl);
  }

  pub plain_between : (events : List MeantEvent) (front following : List Step) (own : Option (List ℕ))
      → uniform_plan size false key events ≡ front ++ Control own ∷ following → pending front ≡ []
  plain_between events =
      stands_in_plan IsBehindNone (uniform_plan size false key events) (plain_controls [] events refl)
