-- A list that is put form by form, and what verdicts say.
mod PutLists
mod Verdicts
