-- Why the quick test of a guess is right.
mod QuickLaws
mod QuickRoot
