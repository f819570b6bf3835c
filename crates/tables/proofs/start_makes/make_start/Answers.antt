-- `start_makes::make_start`: the chain, then the form, then the tables of the boxes. Assumes nothing.
use Prim.Native.Nat.{ℕ, ◌≤◌}
use mathlib.Core.Path.{◌≡◌, sym, ap, ◌∙◌, subst}
use mathlib.Core.Bool.{true}
use mathlib.Core.List.{List}
use lib.IntN.{ℤ}
use Rattle.meaning.specs.declared.Refusal.{Refusal}
use Rattle.meaning.specs.Buffers.{Left, refused_with, left}
use Rattle.meaning.specs.Tables.{known_form}
use Rattle.tables.specs.declared.chains.Chain.{Chain}
use Rattle.tables.specs.declared.frames.Frame.{Frame}
use Rattle.tables.specs.Chains.{most_above, frame_at}
use Rattle.tables.specs.Frames.{formed}
use Rattle.tables.specs.StartMakes.{frames_tables, FramesSound, behind_chain, chain_left}
use Rattle.tables.proofs.chains.Laws.{Chained, chain-taken, chain-few, frame-sound}
use Rattle.tables.proofs.frames.Laws.{formed-sound}
use Rattle.tables.proofs.start_makes.Laws.{chain-bad, chain-unknown, chain-good}
use Rattle.tables.proofs.start_makes.make_start.Goals as goal

pub write_start_own-requires : goal.write_start_own-requires
write_start_own-requires c =
    let frame : Frame = c.args.f in
    let bands : List ℤ = c.args.bands.now in
    let coef : List ℤ = c.args.coef.now in
    let chain : List ℕ = c.args.chain.now in
    let form : ℕ = c.args.form in
    let boxes : Chain = c.in-Ok.read in
    let taken : Chained true frame chain boxes = chain-taken true frame chain c.read_chain.result c.read_chain.ensures c.in-Ok.is in
    let sound : (k : known_form form ≡ true) → (boxes.m ≤ most_above) × FramesSound (formed frame form) bands coef boxes.edges boxes.m = λ k. (chain-few true frame chain taken, λ i l. (formed-sound (frame_at frame boxes.edges i) form k (frame-sound true frame chain taken c.requires.frame.0 c.requires.root i l), c.requires.frame.1)) in
    let known : known_form form ≡ true = sym c.known.ensures ∙ c.if-known.true in
    subst (λ (f : Frame). (boxes.m ≤ most_above) × FramesSound f bands coef boxes.edges boxes.m) (sym c.formed-own.ensures) (sound known)

pub returns-then-known : goal.returns-then-known
returns-then-known c =
    let frame : Frame = c.args.f in
    let bands : List ℤ = c.args.bands.now in
    let coef : List ℤ = c.args.coef.now in
    let chain : List ℕ = c.args.chain.now in
    let form : ℕ = c.args.form in
    let buffer : List ℕ = c.args.buf.now in
    let boxes : Chain = c.in-Ok.read in
    let taken : Chained true frame chain boxes = chain-taken true frame chain c.read_chain.result c.read_chain.ensures c.in-Ok.is in
    let made : (k : known_form form ≡ true) → left (behind_chain chain (frames_tables (formed frame form) bands coef boxes.edges boxes.m)) buffer ≡ chain_left frame bands coef chain form buffer = λ k. chain-good frame bands coef chain form buffer taken c.requires.frame.0.rooms k in
    let known : known_form form ≡ true = sym c.known.ensures ∙ c.if-known.true in
    let w = c.write_start_own in
    let e = ap (λ (f : Frame). left (behind_chain chain (frames_tables f bands coef boxes.edges boxes.m)) buffer) c.formed-own.ensures ∙ made known in
    record { answer = w.ensures.answer ∙ ap (λ (l : Left). l.answer) e; bytes = w.ensures.bytes ∙ ap (λ (l : Left). l.buffer) e }

pub returns-in-Err : goal.returns-in-Err
returns-in-Err c =
    let frame : Frame = c.args.f in
    let bands : List ℤ = c.args.bands.now in
    let coef : List ℤ = c.args.coef.now in
    let chain : List ℕ = c.args.chain.now in
    let form : ℕ = c.args.form in
    let buffer : List ℕ = c.args.buf.now in
    let w = c.refuse in
    let e = chain-bad frame bands coef chain form buffer c.read_chain.result c.read_chain.ensures c.in-Err.e c.in-Err.is in
    record { answer = w.ensures.answer ∙ ap (λ (l : Left). l.answer) e; bytes = w.ensures.bytes ∙ ap (λ (l : Left). l.buffer) e }

pub returns-else-known : goal.returns-else-known
returns-else-known c =
    let frame : Frame = c.args.f in
    let bands : List ℤ = c.args.bands.now in
    let coef : List ℤ = c.args.coef.now in
    let chain : List ℕ = c.args.chain.now in
    let form : ℕ = c.args.form in
    let buffer : List ℕ = c.args.buf.now in
    let boxes : Chain = c.in-Ok.read in
    let taken : Chained true frame chain boxes = chain-taken true frame chain c.read_chain.result c.read_chain.ensures c.in-Ok.is in
    let w = c.refuse-in-Ok in
    let k = c.known in
    let e = ap (λ (r : Refusal). refused_with r buffer) c.wrong_form.ensures ∙ chain-unknown frame bands coef chain form buffer taken (sym k.ensures ∙ c.if-known.false) in
    record { answer = w.ensures.answer ∙ ap (λ (l : Left). l.answer) e; bytes = w.ensures.bytes ∙ ap (λ (l : Left). l.buffer) e }
