-- What may be expected can be met, so what was passed begins a program.
use Rattle.std.proofs.Common.{◌≡◌, ◌≢◌, ◌∙◌, ℕ, zero, suc, refl, lit<, lit≤, Bool, true, false, cond, List, [], ◌∷◌, ◌++◌, Option, Some, None, pos}
use Rattle.gcl_core.specs.declared.words.Word.{Word}
use Rattle.gcl_core.specs.declared.words.Word.TheVariants as w
use Rattle.gcl_core.specs.declared.tokens.Key.TheVariants as k
use Rattle.gcl_core.specs.declared.tokens.Sym.TheVariants as y
use Rattle.gcl_parse.specs.declared.starts.Start.{Start}
use Rattle.gcl_parse.specs.declared.starts.Start.TheVariants as b
use Rattle.gcl_core.specs.declared.levels.Level.{Level}
use Rattle.gcl_core.specs.declared.levels.Level.TheVariants as l
use Rattle.gcl_core.specs.meaning.Syntax.{Expression, Num}
use Rattle.gcl_core.specs.text.Grammar as g
use Rattle.gcl_core.specs.text.Grammar.{operator, leaf, or_row, and_row, sum_row, product_row, ReadsPhrase, ReadsMore}
use Rattle.gcl_core.specs.text.Levels.{above}
use Rattle.gcl_parse.specs.inner.Starts.{begins_with}
use Rattle.gcl_parse.specs.inner.Fronts.{first, is_sym, is_key}
use Rattle.gcl_parse.specs.inner.Pushdown as m
use Rattle.gcl_parse.specs.inner.Pushdown.{Symbol, phrase, more, take_word, run, stops, accepts, goes_on, at_atom, at_sign, at_not, at_phrase, after_start, after_operand, may_end, a_program}
use Rattle.gcl_parse.proofs.Steps as step
use Rattle.gcl_parse.proofs.PhrasesPass.{Ends, reads_runs, ends_row, ends_tighter}
use Rattle.gcl_parse.proofs.StatementsPass.{Closes, all_runs, block_runs, brace_closes}

-- tokens that meet what is expected
abbrev pub fill_one : Symbol → List Word → List Word
fill_one (phrase l) ts = w.Number 0 ∷ ts
fill_one (more l) ts = ts
fill_one (m.sym a) ts = w.Sym a ∷ ts
fill_one (m.key a) ts = w.Key a ∷ ts
fill_one m.number ts = w.Number 0 ∷ ts
fill_one m.stmts ts = ts
fill_one m.target ts = w.Sym y.Assign ∷ w.Number 0 ∷ w.Sym y.Semicolon ∷ ts
fill_one m.block ts = w.Sym y.LeftBrace ∷ w.Sym y.RightBrace ∷ ts
fill_one m.otherwise ts = ts
fill_one (m.arms n) ts = w.Sym y.RightBrace ∷ ts

abbrev pub fill : List Symbol → List Word
fill [] = []
fill (x ∷ s) = fill_one x (fill s)

-- these tokens do not go on with what the symbol expects
abbrev pub Follows : Symbol → List Word → Type 0
Follows (phrase l) ts = Ends l ts
Follows (more l) ts = Ends l ts
Follows m.stmts ts = Closes ts
Follows m.otherwise ts = first ts ≢ Some (w.Key k.Else)
Follows _ ts = Unit {0}

-- a stack as a program makes it
pub data Sound : List Symbol → Type 0 where
  bottom : Sound []
  upon : {x : Symbol} {s : List Symbol} → Follows x (fill s) → Sound s → Sound (x ∷ s)

zero_sign : (ts : List Word) → ReadsPhrase l.Sign (w.Number 0 ∷ ts) (Num (pos 0)) ts
zero_sign ts = g.without_sign (g.a_leaf refl)

zero_sum : (ts : List Word) → ReadsPhrase l.Sum (w.Number 0 ∷ ts) (Num (pos 0)) ts
zero_sum ts = g.a_row sum_row (g.a_row product_row (zero_sign ts) g.no_more) g.no_more

zero_not : (ts : List Word) → ReadsPhrase l.Not (w.Number 0 ∷ ts) (Num (pos 0)) ts
zero_not ts = g.without_not (g.no_comparison (zero_sum ts))

zero_reads : (l : Level) (ts : List Word) → ReadsPhrase l (w.Number 0 ∷ ts) (Num (pos 0)) ts
zero_reads l.Atom ts = g.a_leaf refl
zero_reads l.Sign ts = zero_sign ts
zero_reads l.Product ts = g.a_row product_row (zero_sign ts) g.no_more
zero_reads l.Sum ts = zero_sum ts
zero_reads l.Compare ts = g.no_comparison (zero_sum ts)
zero_reads l.Not ts = zero_not ts
zero_reads l.And ts = g.a_row and_row (zero_not ts) g.no_more
zero_reads l.Or ts = g.a_row or_row (g.a_row and_row (zero_not ts) g.no_more) g.no_more

-- the tokens that fill a symbol meet it
fill_runs : (x : Symbol) (s : List Symbol) (ts : List Word) → Follows x ts → run (fill_one x ts) (x ∷ s) ≡ run ts s
fill_runs (phrase l) s ts h = reads_runs (zero_reads l ts) h s
fill_runs (more l) s ts h = ends_row h s
fill_runs (m.sym a) s ts h = step.sym_on refl s
fill_runs (m.key a) s ts h = step.key_on refl s
fill_runs m.number s ts h = step.number_passes 0 ts s
fill_runs m.stmts s ts h = all_runs g.no_statement h s
fill_runs m.target s ts h = step.assign_on refl s ∙ reads_runs (zero_reads l.Or _) (record { less = lit< tt }) (m.sym y.Semicolon ∷ s) ∙ step.sym_on refl s
fill_runs m.block s ts h = block_runs (g.in_braces g.no_statement) s
fill_runs m.otherwise s ts h = (step.no_else_passes ts h).runs s
fill_runs (m.arms n) s ts h = step.arms_off n _ (λ q. let bar = q.1 in cc) s ∙ step.sym_on refl s

nothing_left : run [] [] ≡ accepts
unfolding run
nothing_left = refl

pub completes : {s : List Symbol} → Sound s → run (fill s) s ≡ accepts
completes bottom = nothing_left
completes (upon {x = x} {s = s} f h) = fill_runs x s (fill s) f ∙ completes h

-- what one token leaves is as a program makes it
abbrev pub Stays : Option (List Symbol) → Type 0
Stays None = Unit {0}
Stays (Some s) = Sound s

if_stays : (c : Bool) (x z : Option (List Symbol)) → Stays x → Stays z → Stays (cond c x z)
if_stays true x z h k = h
if_stays false x z h k = k

closes_bracket : (ts : List Word) → Ends l.Or (w.Sym y.RightParen ∷ ts)
closes_bracket ts = record { less = lit< tt }

atom_stays : (v : Word) (s : List Symbol) → Sound s → Stays (at_atom v s)
atom_stays v s h = go (leaf v) refl
  where
    go : (q : Option Expression) → leaf v ≡ q → Stays (at_atom v s)
    go (Some e) q = rw q h
    go None q = rw q (if_stays (is_sym y.LeftParen v) _ _ (upon (closes_bracket (fill s)) (upon tt h)) tt)

sign_stays : (v : Word) (s : List Symbol) → Ends l.Sign (fill s) → Sound s → Stays (at_sign v s)
sign_stays v s e h = if_stays (is_sym y.Minus v) _ _ (upon e h) (atom_stays v s h)

compare_stays : (v : Word) (s : List Symbol) → Ends l.Compare (fill s) → Sound s → Stays (at_phrase l.Compare v s)
compare_stays v s e h = sign_stays v _ (ends_tighter l.Sign (lit≤ tt) e) (upon (ends_tighter l.Product (lit≤ tt) e) (upon (ends_tighter l.Sum (lit≤ tt) e) (upon e h)))

not_stays : (v : Word) (s : List Symbol) → Ends l.Not (fill s) → Sound s → Stays (at_not v s)
not_stays v s e h = if_stays (is_key k.Not v) _ _ (upon e h) (compare_stays v s (ends_tighter l.Compare (lit≤ tt) e) h)

phrase_stays : (l : Level) (v : Word) (s : List Symbol) → Ends l (fill s) → Sound s → Stays (at_phrase l v s)
phrase_stays l.Or v s e h = not_stays v _ (ends_tighter l.Not (lit≤ tt) e) (upon (ends_tighter l.And (lit≤ tt) e) (upon e h))
phrase_stays l.And v s e h = not_stays v _ (ends_tighter l.Not (lit≤ tt) e) (upon e h)
phrase_stays l.Not v s e h = not_stays v s e h
phrase_stays l.Compare v s e h = compare_stays v s e h
phrase_stays l.Sum v s e h = sign_stays v _ (ends_tighter l.Sign (lit≤ tt) e) (upon (ends_tighter l.Product (lit≤ tt) e) (upon e h))
phrase_stays l.Product v s e h = sign_stays v _ (ends_tighter l.Sign (lit≤ tt) e) (upon e h)
phrase_stays l.Sign v s e h = sign_stays v s e h
phrase_stays l.Atom v s e h = atom_stays v s h

operand_stays : (l : Level) (s : List Symbol) → Ends l (fill s) → Sound s → Sound (phrase (above l) ∷ after_operand l s)
operand_stays l.Or s e h = upon (ends_tighter l.And (lit≤ tt) e) (upon e h)
operand_stays l.And s e h = upon (ends_tighter l.Not (lit≤ tt) e) (upon e h)
operand_stays l.Not s e h = upon (ends_tighter l.Compare (lit≤ tt) e) (upon e h)
operand_stays l.Compare s e h = upon (ends_tighter l.Sum (lit≤ tt) e) h
operand_stays l.Sum s e h = upon (ends_tighter l.Product (lit≤ tt) e) (upon e h)
operand_stays l.Product s e h = upon (ends_tighter l.Sign (lit≤ tt) e) (upon e h)
operand_stays l.Sign s e h = upon (ends_tighter l.Atom (lit≤ tt) e) (upon e h)
operand_stays l.Atom s e h = upon e (upon e h)

begun_stays : (b : Start) (s : List Symbol) → Closes (fill s) → Sound s → Sound (after_start b ++ (m.stmts ∷ s))
begun_stays b.Skip s c h = upon tt (upon c h)
begun_stays b.Observe s c h = upon (record { less = lit< tt }) (upon tt (upon c h))
begun_stays b.If s c h = upon (record { less = lit< tt }) (upon tt (upon c.no_else (upon c h)))
begun_stays b.While s c h = upon (record { less = lit< tt }) (upon tt (upon c h))
begun_stays b.Choice s c h = upon tt (upon tt (upon tt (upon tt (upon tt (upon tt (upon c h))))))
begun_stays b.Choose s c h = upon tt (upon tt (upon tt (upon tt (upon tt (upon tt (upon tt (upon tt (upon tt (upon c h)))))))))
begun_stays (b.Name i) s c h = upon tt (upon c h)

number_stays : (v : Word) (s : List Symbol) → Sound s → Stays (m.at_number v s)
number_stays (w.Number n) s h = h
number_stays (w.Name n) s h = tt
number_stays (w.Key n) s h = tt
number_stays (w.Sym n) s h = tt

arms_stay : (n : ℕ) (v : Word) (s : List Symbol) → Sound s → Stays (m.at_arms n v s)
arms_stay zero v s h = if_stays (is_sym y.RightBrace v) _ _ h tt
arms_stay (suc n) v s h = if_stays (is_sym y.Bar v) _ _ (upon tt (upon tt (upon tt (upon tt h)))) (if_stays (is_sym y.RightBrace v) _ _ h tt)

start_stays : (v : Word) (s : List Symbol) → Closes (fill s) → Sound s → Stays (take_word v s) → Stays (take_word v (m.stmts ∷ s))
unfolding take_word
start_stays v s c h n = go (begins_with v) refl
  where
    go : (q : Option Start) → begins_with v ≡ q → Stays (take_word v (m.stmts ∷ s))
    go (Some b) e = rw e (begun_stays b s c h)
    go None e = rw e n

pub stays : {s : List Symbol} (v : Word) → Sound s → Stays (take_word v s)
unfolding take_word
stays v bottom = tt
stays v (upon {x = phrase l} {s = s} f h) = phrase_stays l v s f h
stays v (upon {x = more l} {s = s} f h) = if_stays (goes_on l (operator v)) _ _ (operand_stays l s f h) (stays v h)
stays v (upon {x = m.sym a} f h) = if_stays (is_sym a v) _ _ h tt
stays v (upon {x = m.key a} f h) = if_stays (is_key a v) _ _ h tt
stays v (upon {x = m.number} {s = s} f h) = number_stays v s h
stays v (upon {x = m.stmts} {s = s} f h) = start_stays v s f h (stays v h)
stays v (upon {x = m.target} f h) =
    if_stays (is_sym y.Assign v) _ _ (upon (record { less = lit< tt }) (upon tt h)) (if_stays (is_sym y.Tilde v) _ _ (upon tt (upon tt (upon (record { less = lit< tt }) (upon tt (upon tt h))))) tt)
stays v (upon {x = m.block} {s = s} f h) = if_stays (is_sym y.LeftBrace v) _ _ (upon (brace_closes (fill s)) (upon tt h)) tt
stays v (upon {x = m.otherwise} {s = s} f h) = if_stays (is_key k.Else v) _ _ (upon tt h) (stays v h)
stays v (upon {x = m.arms n} {s = s} f h) = arms_stay n v s h

pub whole_sound : Sound a_program
whole_sound = upon (record { no_start = refl; no_else = λ q. cc }) (upon tt (upon (record { less = lit< tt }) (upon tt bottom)))
