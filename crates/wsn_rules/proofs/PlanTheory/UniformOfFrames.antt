-- The plan of uniform frames is the uniform plan of their meaning.
use Rattle.std.proofs.Common.{◌≡◌, ℕ, zero, suc, ◌+◌, ◌-◌, ◌*◌, ◌/◌, ◌≤◌, ◌∷◌, ◌++◌, [], Bool, true, false, not, cond, List, Option, length, map, replicate, refl, sym, ap, ◌∙◌, subst, inl, inr, arith, append_assoc, append-nil}
use Rattle.std.proofs.lemmas.Bool.{cases_Bool}
use Rattle.std.proofs.lemmas.Nat.{div-mul-add}
use Rattle.std.proofs.lemmas.List.{length-append, map-append}
use Rattle.std.proofs.Math.Nat.{zero-div}
use Rattle.std.proofs.lemmas.Grind.{flat_map-append}
use Rattle.wsn_wire.specs.declared.endpoint.Role.{Role}
use Rattle.wsn_wire.specs.declared.length_encoding.Form.TheVariants.{Shortest}
use Rattle.wsn_wire.specs.Frame.{Frame, is_control}
use Rattle.wsn_rules.specs.declared.step.Step.{Step}
use Rattle.wsn_rules.specs.declared.step.Step.TheVariants.{Piece, Last, Control}
use Rattle.wsn_rules.specs.Limits.{Limits}
use Rattle.wsn_rules.specs.Group.{unfinished, payload_of}
use Rattle.wsn_rules.specs.Lawful.{IsLawful}
use Rattle.wsn_rules.specs.Meaning.{MeantEvent, event_at, events_after, meaning}
use Rattle.wsn_rules.specs.Meaning as meant
use Rattle.wsn_rules.specs.Recut.{step_of, plan_of}
use Rattle.wsn_rules.specs.UniformPlan.{piece_count, uniform_after, uniform_plan}
use Rattle.wsn_rules.specs.UniformFrames.{HoldsTheRest, AreUniform}
use Rattle.wsn_rules.proofs.Prefixes.{push-append}
use Rattle.wsn_rules.proofs.LawfulLists.{law_at_split}
use Rattle.wsn_rules.proofs.LawfulMeaning.{event_of_control, event_of_data}
use Rattle.wsn_rules.proofs.Groups.{unfinished_control, unfinished_final, unfinished_more}
use Rattle.wsn_rules.proofs.PlanTheory.PlansOfFrames.{step_of_last, step_of_piece, step_of_control}

-- ---- steps of frames

-- ---- the number of Pieces of a message with full ones and a rest

count_of_rest : (size n rest : ℕ) → 1 ≤ rest → rest ≤ size → piece_count size (n * size + rest) ≡ n
count_of_rest size n rest some within =
    let less : n * size + rest - 1 ≡ n * size + (rest - 1) = omega arith in
    ap (λ (bytes : ℕ). bytes / size) less ∙ div-mul-add n size (rest - 1) (omega arith)

none_of_nothing : (size n : ℕ) → 1 ≤ size → n * size ≡ 0 → n ≡ 0
none_of_nothing size zero some nothing = refl
none_of_nothing size (suc n) some nothing = absurd (omega arith)

pub text_of_push : (group : List Frame) (f : Frame) → length (payload_of (group ++ f ∷ [])) ≡ length (payload_of group) + length f.payload
text_of_push group f =
    ap length (flat_map-append (λ (g : Frame). g.payload) group (f ∷ [])) ∙ length-append (payload_of group) (f.payload ++ []) ∙ ap (λ (bytes : List ℕ). length (payload_of group) + length bytes) (append-nil f.payload)

module _ (size : ℕ) (key : Option (List ℕ)) where
  abbrev pub full : Step
  full = Piece size key Shortest

  abbrev pub uniform : List MeantEvent → List Step
  uniform events = uniform_after size false key [] events

  -- A full Piece for each frame.
  abbrev pub pieces_of : List Frame → List Step
  pieces_of group = map (λ f. full) group

  pieces_are : (group : List Frame) → replicate (length group) full ≡ pieces_of group
  pieces_are [] = refl
  pieces_are (f ∷ group) = ap (λ (steps : List Step). full ∷ steps) (pieces_are group)

  uniform_run : (run : List Step) (events : List MeantEvent) → uniform_after size false key run events ≡ run ++ uniform events
  uniform_run run [] = sym (append-nil run)
  uniform_run run (meant.Control op body ∷ events) =
      uniform_run (run ++ Control key ∷ []) events ∙ push-append run (Control key) (uniform events) ∙ ap (λ (steps : List Step). run ++ steps) (sym (uniform_run (Control key ∷ []) events))
  uniform_run run (meant.Message kind text ∷ events) = refl

  -- Each frame of a group is a full one, by the length of the group's payload.
  unfoldable pub IsFull : List Frame → Type 0
  IsFull group = length (payload_of group) ≡ length group * size

  pub empty_is_full : (group : List Frame) → group ≡ [] → IsFull group
  unfolding IsFull
  empty_is_full group none = ap (λ (fs : List Frame). length (payload_of fs)) none ∙ omega arith ∙ ap (λ (fs : List Frame). length fs * size) (sym none)

  count_of_last : 1 ≤ size → (earlier : List Frame) (f : Frame) → length (payload_of earlier) ≡ length earlier * size → HoldsTheRest size earlier f → piece_count size (length (payload_of (earlier ++ f ∷ []))) ≡ length earlier
  count_of_last some earlier f full (inl within) = ap (piece_count size) (text_of_push earlier f) ∙ ap (λ (n : ℕ). piece_count size (n + length f.payload)) full ∙ count_of_rest size (length earlier) (length f.payload) within.0 within.1
  count_of_last some earlier f full (inr empty) =
      let nothing : length earlier * size ≡ 0 = omega (arith, text_of_push earlier f, ap (λ (bytes : List ℕ). length bytes) empty) in
      ap (λ (bytes : List ℕ). piece_count size (length bytes)) empty ∙ zero-div size ∙ sym (none_of_nothing size (length earlier) some nothing)

  -- ---- one more frame

  pub control_after : (before : List Frame) (f : Frame) (fs : List Frame) → is_control f.op ≡ true → f.fin ≡ true
      → uniform (events_after before (f ∷ fs)) ≡ Control key ∷ uniform (events_after (before ++ f ∷ []) fs)
  control_after before f fs control final =
      let later = events_after (before ++ f ∷ []) fs in
      ap (λ (b : Bool). uniform (cond b (event_at before f ∷ []) [] ++ later)) final
      ∙ ap (λ (e : MeantEvent). uniform (e ∷ later)) (event_of_control before f control)
      ∙ uniform_run (Control key ∷ []) later

  pub last_after : (before : List Frame) (f : Frame) (fs : List Frame) → is_control f.op ≡ false → f.fin ≡ true
      → uniform (events_after before (f ∷ fs))
      ≡ replicate (piece_count size (length (payload_of (unfinished before ++ f ∷ [])))) full ++ (Last key Shortest ∷ uniform (events_after (before ++ f ∷ []) fs))
  last_after before f fs other final =
      let later = events_after (before ++ f ∷ []) fs in
      ap (λ (b : Bool). uniform (cond b (event_at before f ∷ []) [] ++ later)) final
      ∙ ap (λ (e : MeantEvent). uniform (e ∷ later)) (event_of_data before f other)

  pub piece_after : (before : List Frame) (f : Frame) (fs : List Frame) → f.fin ≡ false
      → uniform (events_after before (f ∷ fs)) ≡ uniform (events_after (before ++ f ∷ []) fs)
  piece_after before f fs more = ap (λ (b : Bool). uniform (cond b (event_at before f ∷ []) [] ++ events_after (before ++ f ∷ []) fs)) more

  full_last : (before : List Frame) (f : Frame) (fs : List Frame) → 1 ≤ size → is_control f.op ≡ false → f.fin ≡ true → f.key ≡ key → f.form ≡ Shortest
      → IsFull (unfinished before) → HoldsTheRest size (unfinished before) f
      → uniform (events_after before (f ∷ fs)) ≡ pieces_of (unfinished before) ++ step_of f ∷ uniform (events_after (before ++ f ∷ []) fs)
  unfolding IsFull
  full_last before f fs some other final keyed shortest filled rest =
      let later = events_after (before ++ f ∷ []) fs in
      last_after before f fs other final
      ∙ ap (λ (n : ℕ). replicate n full ++ (Last key Shortest ∷ uniform later)) (count_of_last some (unfinished before) f filled rest)
      ∙ ap (λ (steps : List Step). steps ++ (Last key Shortest ∷ uniform later)) (pieces_are (unfinished before))
      ∙ ap (λ (step : Step). pieces_of (unfinished before) ++ (step ∷ uniform later)) (sym (step_of_last f other final ∙ ap (λ (k : Option (List ℕ)). Last k f.form) keyed ∙ ap (Last key) shortest))

  piece_of : (f : Frame) → is_control f.op ≡ false → f.fin ≡ false → f.key ≡ key → f.form ≡ Shortest → length f.payload ≡ size → full ≡ step_of f
  piece_of f other more keyed shortest filled =
      sym (step_of_piece f other more ∙ ap (λ (n : ℕ). Piece n f.key f.form) filled ∙ ap (λ (k : Option (List ℕ)). Piece size k f.form) keyed ∙ ap (Piece size key) shortest)

  pub full_push : (group : List Frame) (f : Frame) → IsFull group → length f.payload ≡ size → IsFull (group ++ f ∷ [])
  unfolding IsFull
  full_push group f filled is =
      let one : length (group ++ f ∷ []) ≡ length group + 1 = length-append group (f ∷ []) in
      text_of_push group f ∙ omega arith ∙ ap (λ (n : ℕ). n * size) (sym one)

  plan_after : (role : Role) (limits : Limits) (before fs : List Frame) → 1 ≤ size → IsLawful role limits (before ++ fs) → AreUniform size key (before ++ fs) → unfinished (before ++ fs) ≡ []
      → IsFull (unfinished before) → uniform (events_after before fs) ≡ pieces_of (unfinished before) ++ plan_of fs
  plan_after role limits before [] some lawful all finished filled =
      sym (ap (λ (group : List Frame). pieces_of group ++ []) (ap unfinished (sym (append-nil before)) ∙ finished))
  plan_after role limits before (f ∷ fs) some lawful all finished filled =
      let here = all before fs f refl in
      let moved = push-append before f fs in
      let next = plan_after role limits (before ++ f ∷ []) fs some (subst (IsLawful role limits) (sym moved) lawful) (subst (AreUniform size key) (sym moved) all) (ap unfinished moved ∙ finished) in
      elim (cases_Bool (is_control f.op)) [
        | inl control ↦
            let none = here.between (ap not control) in
            let still = unfinished_control before f (ap not control) ∙ none in
            let law = law_at_split role limits before f fs lawful in
            control_after before f fs control (law.frame.encoded.control control).final
            ∙ ap (λ (step : Step). step ∷ uniform (events_after (before ++ f ∷ []) fs)) (sym (step_of_control f control ∙ ap Control here.same_key))
            ∙ ap (λ (steps : List Step). step_of f ∷ steps) (next (empty_is_full (unfinished (before ++ f ∷ [])) still) ∙ ap (λ (group : List Frame). pieces_of group ++ plan_of fs) still)
            ∙ ap (λ (group : List Frame). pieces_of group ++ step_of f ∷ plan_of fs) (sym none)
        | inr other ↦ elim (cases_Bool f.fin) [
          | inl final ↦
              let ended = unfinished_final before f (ap not other) final in
              full_last before f fs some other final here.same_key here.shortest filled (here.rest (ap not other) final)
              ∙ ap (λ (steps : List Step). pieces_of (unfinished before) ++ step_of f ∷ steps) (next (empty_is_full (unfinished (before ++ f ∷ [])) ended) ∙ ap (λ (group : List Frame). pieces_of group ++ plan_of fs) ended)
          | inr more ↦
              let grown = unfinished_more before f (ap not other) more in
              let is = here.full (ap not other) more in
              piece_after before f fs more
              ∙ next (subst IsFull (sym grown) (full_push (unfinished before) f filled is))
              ∙ ap (λ (group : List Frame). pieces_of group ++ plan_of fs) grown
              ∙ ap (λ (steps : List Step). steps ++ plan_of fs) (map-append (λ (g : Frame). full) (unfinished before) (f ∷ []))
              ∙ append_assoc (pieces_of (unfinished before)) (full ∷ []) (plan_of fs)
              ∙ ap (λ (step : Step). pieces_of (unfinished before) ++ step ∷ plan_of fs) (piece_of f other more here.same_key here.shortest is)
        ]
      ]

  pub plan_of_uniform : (role : Role) (limits : Limits) (fs : List Frame) → 1 ≤ size → IsLawful role limits fs → unfinished fs ≡ [] → AreUniform size key fs → uniform_plan size false key (meaning fs) ≡ plan_of fs
  plan_of_uniform role limits fs some lawful finished all = plan_after role limits [] fs some lawful all finished (empty_is_full [] refl)
