-- The parts of turns, and what a loop is entered with, but at places that are lost.
use Rattle.std.specs.Prelude.{◌≡◌, ℕ, ◌<◌, false, List, Contains}
use Rattle.visit_finder.specs.declared.residues.Moduli.{Moduli}
use Rattle.visit_finder.specs.declared.residues.Residues.{Residues}
use Rattle.visit_finder.specs.Places.{modulus, is_lost, AreForms}
use Rattle.visit_finder.specs.Exact.{Turn, Entry, turns_within, entries_within}
use Rattle.visit_finder.specs.Multiples.{AreOfTurns, AreOfEntries}

pub record AreParts (moduli : Moduli) (states : List ℕ) (turns : List Turn) (parts : List ((ℕ × ℕ) × Residues)) : Type 0 where
  pub forms : (t s : ℕ) (r : Residues) → Contains parts ((t, s), r) → AreForms moduli r
  pub parts_of : (place : ℕ) → place < 5 → is_lost moduli place ≡ false → AreOfTurns (modulus moduli place) place (turns_within states turns) parts

pub record AreBegun (moduli : Moduli) (states : List ℕ) (entries : List Entry) (begun : List (ℕ × Residues)) : Type 0 where
  pub forms : (s : ℕ) (r : Residues) → Contains begun (s, r) → AreForms moduli r
  pub begun_of : (place : ℕ) → place < 5 → is_lost moduli place ≡ false → AreOfEntries (modulus moduli place) place (entries_within states entries) begun
