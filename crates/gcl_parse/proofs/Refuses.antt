-- Where the pushdown stops, the tokens are refused.
use Rattle.std.proofs.Common.{◌≡◌, ℕ, zero, suc, ◌<◌, ◌≤◌, ◌+◌, ◌-◌, ◌∙◌, refl, ap, sym, subst, arith, Bool, true, false, List, [], ◌∷◌, ◌++◌, length, map, take, drop, append_assoc, add-one, Option, Some, None, ◌⊎◌, inl, inr, length-append}
use Rattle.std.proofs.lemmas.List.{take-append-drop, take-append-le, map-append, length-map}
use Rattle.std.proofs.Math.Seq.{take-append-add}
use Rattle.gcl_core.specs.declared.tokens.TokenKind.{TokenKind}
use Rattle.gcl_core.specs.declared.tokens.TokenKind.TheVariants as t
use Rattle.gcl_core.specs.declared.words.Word.{Word}
use Rattle.gcl_core.specs.declared.words.Word.TheVariants as w
use Rattle.gcl_core.specs.declared.levels.Level.{Level}
use Rattle.gcl_core.specs.declared.levels.Level.TheVariants as l
use Rattle.gcl_core.specs.meaning.Syntax.{Expression, Statements}
use Rattle.gcl_core.specs.text.Words.{as_word, kind_of_word}
use Rattle.gcl_core.specs.text.Grammar.{ReadsProgram}
use Rattle.gcl_core.specs.text.GrammarRefusal.{IsProgram, Begins, RefusedAt}
use Rattle.gcl_parse.specs.inner.Pushdown as m
use Rattle.gcl_parse.specs.inner.Pushdown.{Symbol, phrase, more, take_word, run, stops, accepts, may_end, a_program, goes_on, at_phrase}
use Rattle.gcl_parse.specs.inner.Parses.{Passes}
use Rattle.gcl_parse.proofs.StatementsPass.{program_runs}
use Rattle.gcl_parse.proofs.Accepts.{accepted_program}
use Rattle.gcl_parse.proofs.Completes.{fill, Sound, completes, stays, whole_sound}

abbrev kinds : List Word → List TokenKind
kinds ts = map kind_of_word ts

-- a word of this kind, and one of each of these kinds
abbrev plain : TokenKind → Word
plain k = as_word k 0

abbrev plains : List TokenKind → List Word
plains ks = map plain ks

kind-plain : (k : TokenKind) → kind_of_word (plain k) ≡ k
kind-plain (t.Number n) = refl
kind-plain t.Name = refl
kind-plain (t.Key n) = refl
kind-plain (t.Sym n) = refl

kinds-plains : (ks : List TokenKind) → kinds (plains ks) ≡ ks
kinds-plains [] = refl
kinds-plains (k ∷ ks) = rw (kind-plain k, kinds-plains ks)

-- the pushdown looks at kinds alone
name_phrase : (l : Level) (i : ℕ) (s : List Symbol) → at_phrase l (w.Name 0) s ≡ at_phrase l (w.Name i) s
name_phrase l.Or i s = refl
name_phrase _ i s = refl

take_name : (i : ℕ) (s : List Symbol) → take_word (w.Name 0) s ≡ take_word (w.Name i) s
unfolding take_word
take_name i [] = refl
take_name i (phrase l ∷ s) = name_phrase l i s
take_name i (more l ∷ s) = take_name i s
take_name i (m.sym a ∷ s) = refl
take_name i (m.key a ∷ s) = refl
take_name i (m.number ∷ s) = refl
take_name i (m.stmts ∷ s) = refl
take_name i (m.target ∷ s) = refl
take_name i (m.block ∷ s) = refl
take_name i (m.otherwise ∷ s) = take_name i s
take_name i (m.arms zero ∷ s) = refl
take_name i (m.arms (suc n) ∷ s) = refl

take_kind : (v : Word) (s : List Symbol) → take_word (plain (kind_of_word v)) s ≡ take_word v s
unfolding take_word
take_kind (w.Number n) s = refl
take_kind (w.Key n) s = refl
take_kind (w.Sym n) s = refl
take_kind (w.Name i) s = take_name i s

kinds_run : (ts : List Word) (s : List Symbol) → run ts s ≡ accepts → run (plains (kinds ts)) s ≡ accepts
unfolding run
kinds_run [] s h = h
kinds_run (v ∷ ts) s h = go (take_word v s) refl (kinds_run ts)
  where
    go : (q : Option (List Symbol)) → take_word v s ≡ q → ((t : List Symbol) → run ts t ≡ accepts → run (plains (kinds ts)) t ≡ accepts) → run (plains (kinds (v ∷ ts))) s ≡ accepts
    go None e ih = let n : run (v ∷ ts) s ≡ stops (v ∷ ts) = rw e in cc
    go (Some t) e ih = rw (take_kind v s, e) (ih t (rw e at h))

-- how far the pushdown came
record Reached (ts : List Word) (s : List Symbol) (r : List Word) : Type 0 where
  front : List Word
  parts : ts ≡ front ++ r
  stack : List Symbol
  sound : Sound stack
  goes : (ws : List Word) → run (plains (kinds front) ++ ws) s ≡ run ws stack
  blocked : (v : Word) (q : List Word) → r ≡ v ∷ q → take_word v stack ≡ None
  short : r ≡ [] → run [] stack ≡ stops []

ended_short : (b : Bool) (r : List Word) → m.ended b ≡ stops r → (r ≡ []) × (m.ended b ≡ stops [])
ended_short true r h = cc
ended_short false r h = (cc, refl)

reached : (ts : List Word) {s : List Symbol} (r : List Word) → Sound s → run ts s ≡ stops r → Reached ts s r
unfolding run
reached [] {s} r d h =
    let e = ended_short (may_end s) r h in
    record { front = []; parts = sym e.0; stack = s; sound = d; goes = λ ws. refl; blocked = λ v q k. cc; short = λ k. e.1 }
reached (v ∷ ts) {s} r d h = go (take_word v s) refl (λ t. reached ts {s = t} r)
  where
    go : (q : Option (List Symbol)) → take_word v s ≡ q → ((t : List Symbol) → Sound t → run ts t ≡ stops r → Reached ts t r) → Reached (v ∷ ts) s r
    go None e ih =
        let n : stops (v ∷ ts) ≡ stops r = rw e at h in
        let p : v ∷ ts ≡ r = cc in
        record { front = []; parts = p; stack = s; sound = d; goes = λ ws. refl; blocked = λ u q k. (let j : v ≡ u = cc in rw (← j) e); short = λ k. cc }
    go (Some t) e ih =
        let sound : Sound t = rw e at (stays v d) in
        let i = ih t sound (rw e at h) in
        record {
          front = v ∷ i.front;
          parts = ap (λ x. v ∷ x) i.parts;
          stack = i.stack;
          sound = i.sound;
          goes = λ ws. rw (take_kind v s, e) (i.goes ws);
          blocked = i.blocked;
          short = i.short;
        }

accepted_kinds : (ts : List Word) → run ts a_program ≡ accepts → IsProgram (kinds ts)
accepted_kinds ts h = let p = accepted_program ts h in record { words = ts; kinds = refl; body = p.0; result = p.1; reads = p.2 }

-- the kinds up to where it stopped
parted : {ts r : List Word} (i : Reached ts a_program r) → kinds ts ≡ kinds i.front ++ kinds r
parted {ts} {r} i = ap kinds i.parts ∙ map-append kind_of_word i.front r

spliced : (front rest : List Word) (n : ℕ) → kinds (plains (kinds front) ++ rest) ≡ take n (kinds front) ++ (drop n (kinds front) ++ kinds rest)
spliced front rest n =
    map-append kind_of_word (plains (kinds front)) rest ∙ ap (λ x. x ++ kinds rest) (kinds-plains (kinds front) ∙ sym (take-append-drop n (kinds front)))
    ∙ append_assoc (take n (kinds front)) (drop n (kinds front)) (kinds rest)

-- a front that was passed begins a program
front_begins : {ts r : List Word} (i : Reached ts a_program r) (k : ℕ) → k < length i.front → Begins (take (suc k) (kinds ts))
front_begins {ts} {r} i k h =
    let p : run (plains (kinds i.front) ++ fill i.stack) a_program ≡ accepts = i.goes (fill i.stack) ∙ completes i.sound in
    let n = length-map i.front kind_of_word in
    let a : take (suc k) (kinds ts) ≡ take (suc k) (kinds i.front) = ap (take (suc k)) (parted i) ∙ take-append-le (suc k) (kinds i.front) (kinds r) (omega (arith, n)) in
    record {
      rest = drop (suc k) (kinds i.front) ++ kinds (fill i.stack);
      program = rw a (subst IsProgram (spliced i.front (fill i.stack) (suc k)) (accepted_kinds _ p));
    }

-- a program of these kinds is accepted, whatever its names
kinds_accepted : {ks : List TokenKind} → IsProgram ks → run (plains ks) a_program ≡ accepts
kinds_accepted p = rw (← p.kinds) (kinds_run p.words a_program (program_runs p.reads))

-- and with the word that could not be taken, it begins none
blocked_begins : {ts : List Word} (v : Word) (q : List Word) (i : Reached ts a_program (v ∷ q)) → Begins (take (length i.front + 1) (kinds ts)) → ⊥
unfolding run
blocked_begins {ts} v q i b =
    let n = length-map i.front kind_of_word in
    let t : take (length i.front + 1) (kinds ts) ≡ kinds i.front ++ kind_of_word v ∷ [] =
    ap (take (length i.front + 1)) (parted i) ∙ ap (λ x. take (x + 1) (kinds i.front ++ kinds (v ∷ q))) (sym n) ∙ take-append-add (kinds i.front) (kinds (v ∷ q)) 1 in
    let e : plains (take (length i.front + 1) (kinds ts) ++ b.rest) ≡ plains (kinds i.front) ++ (plain (kind_of_word v) ∷ plains b.rest) =
    ap (λ x. plains (x ++ b.rest)) t ∙ ap plains (append_assoc (kinds i.front) (kind_of_word v ∷ []) b.rest) ∙ map-append plain (kinds i.front) (kind_of_word v ∷ b.rest) in
    let a : run (plains (kinds i.front) ++ (plain (kind_of_word v) ∷ plains b.rest)) a_program ≡ accepts = rw e at (kinds_accepted b.program) in
    let n : run (plain (kind_of_word v) ∷ plains b.rest) i.stack ≡ stops (plain (kind_of_word v) ∷ plains b.rest) = rw (take_kind v i.stack, i.blocked v q refl) in
    let g = i.goes (plain (kind_of_word v) ∷ plains b.rest) in
    cc

no_program : {ts : List Word} → Reached ts a_program [] → IsProgram (kinds ts) → ⊥
no_program {ts} i p =
    let a = kinds_accepted p in
    let e : plains (kinds ts) ≡ plains (kinds i.front) ++ [] = ap plains (parted i) ∙ map-append plain (kinds i.front) [] in
    let g = i.goes [] in
    let h = i.short refl in
    let b : run (plains (kinds i.front) ++ []) a_program ≡ accepts = rw e at a in
    cc

refused_here : (ts r : List Word) → (i : Reached ts a_program r) → RefusedAt (kinds ts) (length i.front)
refused_here ts [] i =
    let n = ap length i.parts ∙ length-append i.front [] in
    let k = length-map ts kind_of_word in
    record {
      within = omega (arith, n, k);
      before = λ k h. front_begins i k h;
      here = λ h. absurd (omega (arith, n, k));
      short = λ h p. no_program i p;
    }
refused_here ts (v ∷ q) i =
    let n = ap length i.parts ∙ length-append i.front (v ∷ q) in
    let k = length-map ts kind_of_word in
    record {
      within = omega (arith, n, k);
      before = λ k h. front_begins i k h;
      here = λ h b. blocked_begins v q i (rw (← add-one (length i.front)) at b);
      short = λ h. absurd (omega (arith, n, k));
    }

pub refused : (ts r : List Word) → run ts a_program ≡ stops r → RefusedAt (kinds ts) (length ts - length r)
refused ts r h =
    let i = reached ts r whole_sound h in
    let n = ap length i.parts ∙ length-append i.front r in
    let e : length ts - length r ≡ length i.front = omega (arith, n) in
    rw e (refused_here ts r i)

pub stops_within : (ts r : List Word) → run ts a_program ≡ stops r → length r ≤ length ts
stops_within ts r h =
    let i = reached ts r whole_sound h in
    let n = ap length i.parts ∙ length-append i.front r in
    omega (arith, n)

-- a word behind the end can't be taken
extra : (ts : List Word) → 0 < length ts → run ts [] ≡ stops ts
unfolding run take_word
extra [] h = absurd (omega arith)
extra (v ∷ ts) h = refl

pub extra_stops : {ts : List Word} (new : List Word) → Passes a_program ts new → 0 < length new → run ts a_program ≡ stops new
extra_stops new p h = p.runs [] ∙ extra new h

-- a list whose kinds are accepted is accepted
kinds_back : (ts : List Word) (s : List Symbol) → run (plains (kinds ts)) s ≡ accepts → run ts s ≡ accepts
unfolding run
kinds_back [] s h = h
kinds_back (v ∷ ts) s h = go (take_word v s) refl (kinds_back ts)
  where
    go : (q : Option (List Symbol)) → take_word v s ≡ q → ((t : List Symbol) → run (plains (kinds ts)) t ≡ accepts → run ts t ≡ accepts) → run (v ∷ ts) s ≡ accepts
    go None e ih = let n : run (plains (kinds (v ∷ ts))) s ≡ stops (plains (kinds (v ∷ ts))) = rw (take_kind v s, e) in cc
    go (Some t) e ih = rw e (ih t (rw (take_kind v s, e) at h))

pub by_kinds : (ts : List Word) → IsProgram (kinds ts) → (body : Statements) × (e : Expression) × ReadsProgram ts body e []
by_kinds ts p = accepted_program ts (kinds_back ts a_program (kinds_accepted p))

-- the pushdown accepts or stops
pub program_or_refused : (ks : List TokenKind) → IsProgram ks ⊎ ((index : ℕ) × RefusedAt ks index)
program_or_refused ks = go (run (plains ks) a_program) refl
  where
    go : (o : m.Verdict) → run (plains ks) a_program ≡ o → IsProgram ks ⊎ ((index : ℕ) × RefusedAt ks index)
    go accepts e = inl (subst IsProgram (kinds-plains ks) (accepted_kinds (plains ks) e))
    go (stops r) e = inr (length (plains ks) - length r, subst (λ x. RefusedAt x (length (plains ks) - length r)) (kinds-plains ks) (refused (plains ks) r e))
